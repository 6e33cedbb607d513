use Rattle.std.proofs.Common.{◌-◌, ◌*◌, ◌^◌, drop}
use Rattle.disk_cache.specs.Runs.{runs_from, writes_of}
use Rattle.disk_cache.specs.Slots.{places}
use Rattle.disk_cache.specs.Taken.{taken}
use Rattle.disk_cache.proofs.Blocks.{IsGivingTo}
use Rattle.disk_cache.proofs.giving.give.Given as goal

abbrev pub invariant-loop-slots : goal.invariant-loop-slots
invariant-loop-slots g l =
    let n = (g.D.Disk.device l.initial.disk).size in
    IsGivingTo g.D.Disk.device g.D.Disk.write_grows g.D.Disk.sync_grows (writes_of (runs_from 0 (places (taken l.collected) n)))
    (writes_of (runs_from (4096 * l.from) (drop (4096 * l.from) (places (taken l.collected) n)))) l.initial.disk l.disk

abbrev pub decreases-loop-slots : goal.decreases-loop-slots
decreases-loop-slots g l = 2 ^ 52 - l.from
