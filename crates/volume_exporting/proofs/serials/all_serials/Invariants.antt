use Rattle.std.proofs.Common.{◌≡◌}
use Rattle.volume_exporting.specs.Exported.{picked, serial_if_in}
use Rattle.volume_exporting.proofs.serials.all_serials.Given as goal

-- the serials so far
abbrev pub invariant-loop-before : goal.invariant-loop-before
invariant-loop-before g l = l.serials.items ≡ picked (serial_if_in (g.L.LookUps.changes l.spool)) l.before
