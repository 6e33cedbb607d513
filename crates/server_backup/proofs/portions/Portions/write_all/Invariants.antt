use Rattle.std.proofs.Common.{◌≡◌}
use Rattle.volume_new.specs.Sizes.{device_size}
use Rattle.server_backup.proofs.portions.Portions.write_all.Given as goal

abbrev pub invariant-portions : goal.invariant-portions
invariant-portions g l =
    (goal.iterator-portions g).can_next l.iterator'
    × (goal.iterator-portions g).is_finite l.iterator'
    × ((g.D.Disk.device l.disk).size ≡ device_size l.plan.blocks)
