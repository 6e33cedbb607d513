use Rattle.std.proofs.Common.{◌≡◌, take}
use Rattle.std.specs.Prelude.{filter}
use Rattle.model.specs.Spool.{Spool, is_here}
use Rattle.spool_index.specs.View.{Indexes}
use Rattle.spool_admission.proofs.group_admission.groups_here.Given as goal

-- those so far
abbrev pub invariant-loop-name : goal.invariant-loop-name
invariant-loop-name l = (S : Spool) → Indexes S l.index → l.here.items ≡ filter (is_here S) (take l.name-index l.names)
