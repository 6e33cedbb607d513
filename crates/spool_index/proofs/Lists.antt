-- Loops over lists: whether one passes, and the greatest.
use Rattle.std.proofs.Common.{◌≡◌, ℕ, ◌+◌, ◌<◌, List, [], ◌∷◌, length, map, take, get_or, refl, sym, ◌∙◌, ap, Bool}
use Rattle.std.proofs.Common.{true, false, cond}
use Rattle.std.specs.Prelude.{filter, max, ◌&&◌, ◌||◌}
use Rattle.std.specs.List.{list_any}
use Rattle.std.proofs.lemmas.List.{map_push, take_more}
use Rattle.model.specs.Spool.{greatest}
use Rattle.model.proofs.Indexing.{greatest_more}

-- ---- whether one passes

pub any_filtered : {X : Type 0} (t p : X → Bool) (xs : List X) → list_any (λ x. t x && p x) xs ≡ list_any t (filter p xs)
any_filtered t p [] = refl
any_filtered {X} t p (x ∷ xs) = by_test (p x) (any_filtered t p xs) where
  both : (b : Bool) → (b && true) ≡ b
  both true = refl
  both false = refl

  neither : (b : Bool) → (b && false) ≡ false
  neither true = refl
  neither false = refl

  by_test : (b : Bool) → list_any (λ (y : X). t y && p y) xs ≡ list_any t (filter p xs)
      → ((t x && b) || list_any (λ (y : X). t y && p y) xs) ≡ list_any t (cond b (x ∷ filter p xs) (filter p xs))
  by_test true rest = λ i. both (t x) i || rest i
  by_test false rest = λ i. neither (t x) i || rest i

-- ---- the greatest

pub greatest_step : {X : Type 0} (f : X → ℕ) (xs : List X) (i : ℕ) (x : X) (last : ℕ) → i < length xs → x ≡ get_or xs i x
    → last ≡ greatest (map f (take i xs)) → max last (f x) ≡ greatest (map f (take (i + 1) xs))
greatest_step f xs i x last low is before =
    ap (λ (n : ℕ). max n (f x)) before
    ∙ ap (max (greatest (map f (take i xs)))) (ap f is)
    ∙ sym (greatest_more (map f (take i xs)) (f (get_or xs i x)))
    ∙ ap greatest (sym (map_push f (take i xs) (get_or xs i x)))
    ∙ ap (λ ys. greatest (map f ys)) (sym (take_more xs i x low))
