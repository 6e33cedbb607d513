-- The last change of a lawful spool.
use Rattle.std.proofs.Common.{[], ◌∷◌, ◌++◌, sym, subst}
use Rattle.std.proofs.lemmas.List.{append_assoc, append-nil}
use Rattle.model.specs.Stream.{Octets}
use Rattle.model.specs.Lawful.{IsLawful, IsLawfulAfter, MayFollow}
use Rattle.model.specs.Spool.{Spool}
use Rattle.model.specs.declared.change.Change.{Change}

-- the last change may follow those before it
last_may : (host : Octets) (before cs : Spool) (c : Change) → IsLawfulAfter host before (cs ++ c ∷ []) → MayFollow host (before ++ cs) c
last_may host before [] c lawful = subst (λ (S : Spool). MayFollow host S c) (sym (append-nil before)) lawful.0
last_may host before (d ∷ cs) c lawful =
    subst (λ (S : Spool). MayFollow host S c) (append_assoc before (d ∷ []) cs) (last_may host (before ++ d ∷ []) cs c lawful.1)

pub may_follow : (host : Octets) (S : Spool) (c : Change) → IsLawful host (S ++ c ∷ []) → MayFollow host S c
may_follow host S c lawful = last_may host [] S c lawful
