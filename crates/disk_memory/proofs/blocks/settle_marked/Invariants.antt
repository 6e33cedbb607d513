use Rattle.std.proofs.Common.{◌*◌}
use Rattle.disk_memory.specs.Picks.{picked_from}
use Rattle.disk_memory.proofs.Picking.{IsSettledTo}
use Rattle.disk_memory.proofs.blocks.settle_marked.Given as goal

abbrev pub invariant-loop-block : goal.invariant-loop-block
invariant-loop-block l = IsSettledTo l.picks l.count (l.block * 4096) l.touched l.synced
    (picked_from l.picks 0 l.touched l.synced l.initial.present.items) l.initial.present.items l.present.items
