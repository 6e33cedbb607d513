use Rattle.disk_memory.specs.Picks.{settled}
use Rattle.disk_memory.proofs.Picking.{IsSettledTo}
use Rattle.disk_memory.proofs.blocks.settle_range.Given as goal

abbrev pub invariant-loop-at : goal.invariant-loop-at
invariant-loop-at l = IsSettledTo l.picks l.count l.at l.touched l.synced
    (settled l.picks l.fn.count l.fn.range.start l.touched l.synced l.initial.present.items) l.initial.present.items l.present.items
