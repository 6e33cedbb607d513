use Rattle.std.proofs.Common.{◌≡◌, take, false}
use Rattle.std.specs.List.{list_any}
use Rattle.model.specs.Spool.{Spool}
use Rattle.spool_index.specs.View.{Indexes}
use Rattle.spool_opening.specs.Replayed.{AreHere}
use Rattle.spool.proofs.Large.{one_large}
use Rattle.spool.proofs.article_room.extends_large.Given as goal

abbrev pub invariant-loop-name : goal.invariant-loop-name
invariant-loop-name l = (S : Spool) → Indexes S l.index → AreHere S l.groups → list_any (one_large S) (take l.name-index l.groups) ≡ false
