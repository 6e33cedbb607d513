-- What is written in pieces is written in one.
use Rattle.std.proofs.Common.{◌≡◌, ℕ, ◌+◌, ◌-◌, List, [], ◌++◌, take, drop, length, Option, Some, None, sym, ◌∙◌, ap}
use Rattle.std.proofs.Common.{subst, arith}
use Rattle.std.proofs.Common.{append_assoc, take-add}
use Rattle.std.proofs.lemmas.List.{append-nil, drop-drop, take_rest}
use Rattle.std.specs.Io.KnownBytes.{Appends, Keeps}
use Rattle.server_delivering.specs.Delivery.{Wrote}

pub appends_nothing : (known : Option (List ℕ)) → Appends known known []
appends_nothing None = tt
appends_nothing (Some xs) = sym (append-nil xs)

pub kept : (old new : Option (List ℕ)) → Keeps old new → Appends old new []
kept None new same = tt
kept (Some xs) None same = elim same [ ]
kept (Some xs) (Some ys) same = same ∙ sym (append-nil xs)

pub appends_both : (old middle new : Option (List ℕ)) (xs ys : List ℕ) →
    Appends old middle xs → Appends middle new ys → Appends old new (xs ++ ys)
appends_both None middle new xs ys first second = tt
appends_both (Some a) None new xs ys first second = elim first [ ]
appends_both (Some a) (Some b) None xs ys first second = elim second [ ]
appends_both (Some a) (Some b) (Some c) xs ys first second = second ∙ ap (λ t. t ++ ys) first ∙ append_assoc a xs ys

-- nothing is written yet
pub nothing : (octets : List ℕ) (at : ℕ) (known : Option (List ℕ)) → Wrote octets at at known known
nothing octets at known =
    (omega arith, subst (λ n. Appends known known (take n (drop at octets))) (sym (minus_self at)) (appends_nothing known))
  where
    minus_self : (n : ℕ) → n - n ≡ 0
    minus_self n = omega arith

-- octets, and then those behind them
pub further : (octets : List ℕ) (from mid to : ℕ) (old middle new : Option (List ℕ)) →
    Wrote octets from mid old middle → Wrote octets mid to middle new → Wrote octets from to old new
further octets from mid to old middle new (low, first) (high, second) = (
  omega (arith, low, high),
  subst (Appends old new) joined
      (appends_both old middle new (take (mid - from) (drop from octets)) (take (to - mid) (drop mid octets)) first second),
)
  where
    joined : take (mid - from) (drop from octets) ++ take (to - mid) (drop mid octets) ≡ take (to - from) (drop from octets)
    joined =
        ap (λ at. take (mid - from) (drop from octets) ++ take (to - mid) (drop at octets)) (omega (arith, low))
        ∙ ap (λ rest. take (mid - from) (drop from octets) ++ take (to - mid) rest) (sym (drop-drop (mid - from) from octets))
        ∙ sym (take-add (mid - from) (to - mid) (drop from octets))
        ∙ ap (λ n. take n (drop from octets)) (omega (arith, low, high))

-- a piece of what is behind a place
pub piece : (octets : List ℕ) (at count : ℕ) (old new : Option (List ℕ)) →
    Appends old new (take count (take (length octets - at) (drop at octets))) → Wrote octets at (at + count) old new
piece octets at count old new wrote = (
  omega arith,
  subst (λ n. Appends old new (take n (drop at octets))) back
      (subst (λ rest. Appends old new (take count rest)) (take_rest octets at) wrote),
)
  where
    back : count ≡ at + count - at
    back = omega arith
