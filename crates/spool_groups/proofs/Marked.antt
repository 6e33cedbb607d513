-- The lines of a group whose articles are marked.
use Rattle.std.proofs.Common.{◌≡◌, ℕ, zero, suc, ◌-◌, ◌<◌, ◌≤◌, List, [], ◌∷◌, map, refl, sym, ◌∙◌, ap, arith}
use Rattle.std.proofs.Common.{inl, inr, Bool, true, false, drop, get_or, length}
use Rattle.std.specs.Prelude.{◌==◌, ◌||◌, max, min, nat_le}
use Rattle.std.specs.List.{list_any}
use Rattle.std.proofs.Math.Seq.{drop-nil}
use Rattle.std.proofs.lemmas.Bool.{cases_lt, leb-true, ne_eqb}
use Rattle.std.proofs.lemmas.List.{drop-map}
use Rattle.spool_groups.specs.declared.group.Line.{Line}
use Rattle.spool_groups.proofs.Lists.{any_mapped}

-- elements that do not pass may be left out at the start
pub any_dropped : {X : Type 0} (p : X → Bool) (xs : List X) (g f : ℕ)
    → ((j : ℕ) (d : X) → g ≤ j → j < f → j < length xs → p (get_or xs j d) ≡ false)
    → ((j : ℕ) (d : X) → f ≤ j → j < g → j < length xs → p (get_or xs j d) ≡ false)
    → list_any p (drop g xs) ≡ list_any p (drop f xs)
any_dropped p [] g f one two = ap (list_any p) (drop-nil g ∙ sym (drop-nil f))
any_dropped p (x ∷ xs) zero zero one two = refl
any_dropped p (x ∷ xs) zero (suc f) one two =
    ap (λ (b : Bool). b || list_any p xs) (one 0 x (omega arith) (omega arith) (omega arith))
    ∙ any_dropped p xs 0 f (λ j d low less small. one (suc j) d (omega arith) (omega arith) (omega arith))
    (λ j d low less small. absurd (omega arith))
any_dropped p (x ∷ xs) (suc g) zero one two =
    sym (ap (λ (b : Bool). b || list_any p xs) (two 0 x (omega arith) (omega arith) (omega arith))
    ∙ any_dropped p xs 0 g (λ j d low less small. two (suc j) d (omega arith) (omega arith) (omega arith))
    (λ j d low less small. absurd (omega arith)))
any_dropped p (x ∷ xs) (suc g) (suc f) one two =
    any_dropped p xs g f (λ j d low less small. one (suc j) d (omega arith) (omega arith) (omega arith))
    (λ j d low less small. two (suc j) d (omega arith) (omega arith) (omega arith))

-- the lines from the first one on that is in the group and is not older
pub marked_lines : (lines : List Line) (s older low first count : ℕ) → older < s → first ≡ max count (min (low - 1) (length lines))
    → ((j : ℕ) (d : Line) → j < count → nat_le (get_or lines j d).serial older ≡ true)
    → list_any (λ (l : Line). l.serial == s) (drop first lines)
    ≡ list_any (λ n. n == s) (drop (low - 1) (map (λ (l : Line). l.serial) lines))
marked_lines lines s older low first count above first_is early =
    any_dropped (λ (l : Line). l.serial == s) lines first (low - 1)
    (λ j d from to small. absurd (omega (arith, first_is)))
    (λ j d from to small. elim (cases_lt j count) [
      | inl less ↦ ne_eqb (get_or lines j d).serial s
          (λ same. let old = leb-true (get_or lines j d).serial older (early j d less) in absurd (omega (arith, same, old, above)))
      | inr more ↦ absurd (omega (arith, first_is))
    ])
    ∙ sym (any_mapped (λ (l : Line). l.serial) (λ n. n == s) (drop (low - 1) lines))
    ∙ ap (list_any (λ n. n == s)) (sym (drop-map (λ (l : Line). l.serial) (low - 1) lines))
