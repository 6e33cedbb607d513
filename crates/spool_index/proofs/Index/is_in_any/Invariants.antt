use Rattle.std.proofs.Common.{◌≡◌, take, false}
use Rattle.std.specs.List.{list_any}
use Rattle.model.specs.Stream.{Octets}
use Rattle.model.specs.Lawful.{IsLawful}
use Rattle.model.specs.Spool.{Spool}
use Rattle.spool_index.specs.Finding.{is_still_in}
use Rattle.spool_index.specs.View.{Indexes}
use Rattle.spool_index.proofs.Index.is_in_any.Given as goal

abbrev pub invariant-loop-name : goal.invariant-loop-name
invariant-loop-name l = (host : Octets) (S : Spool) → IsLawful host S → Indexes S l.self
    → list_any (is_still_in S l.serial) (take l.name-index l.groups) ≡ false
