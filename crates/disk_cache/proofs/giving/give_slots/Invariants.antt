use Rattle.std.proofs.Common.{◌≤◌, ◌+◌, ◌-◌, ◌*◌, drop, length}
use Rattle.disk_cache.specs.Runs.{runs_from, writes_of}
use Rattle.disk_cache.specs.Slots.{cell, places}
use Rattle.disk_cache.proofs.Blocks.{IsGivingTo}
use Rattle.disk_cache.proofs.giving.give_slots.Given as goal

abbrev pub invariant-loop-next : goal.invariant-loop-next
invariant-loop-next g l =
    let cs = places (cell l.slots.fills.now l.slots.flags.now l.slots.octets.now) (length l.slots.flags.now) in
    (l.from ≤ length l.slots.flags.now)
    × IsGivingTo g.D.Disk.device g.D.Disk.write_grows g.D.Disk.sync_grows (writes_of (runs_from (4096 * l.slots.block) cs))
    (writes_of (runs_from (4096 * l.slots.block + l.from) (drop l.from cs))) l.initial.disk l.disk

abbrev pub decreases-loop-next : goal.decreases-loop-next
decreases-loop-next g l = length l.slots.flags.now - l.from
