use Rattle.std.proofs.Common.{◌≡◌}
use Rattle.std.specs.Prelude.{filter, take}
use Rattle.model.specs.Spool.{is_here}
use Rattle.volume_store.proofs.transfer.groups_here.Given as goal

-- those so far
abbrev pub invariant-loop-name : goal.invariant-loop-name
invariant-loop-name l = l.here.items ≡ filter (is_here l.spool.changes) (take l.name-index l.names)
