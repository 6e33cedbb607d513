-- Lists of slices.
use Rattle.std.specs.Prelude.{◌≡◌, ℕ, Bool, true, false, cond, List, [], ◌∷◌, ◌||◌, ◌&&◌, map, find, Some, option_map}
use Rattle.std.specs.List.{list_all, list_any}
use Rattle.std.proofs.Common.{ap, refl, Bor}

-- the first slice that passes
pub find-borrowed : (p : List ℕ → Bool) (xs : List (Bor (List ℕ)))
    → option_map (λ (x : Bor (List ℕ)). x.now) (find (λ (x : Bor (List ℕ)). p x.now) xs) ≡ find p (map (λ (x : Bor (List ℕ)). x.now) xs)
find-borrowed p [] = refl
find-borrowed p (x ∷ xs) = by_test (p x.now) (find-borrowed p xs) where
  by_test : (b : Bool) → option_map (λ (y : Bor (List ℕ)). y.now) (find (λ (y : Bor (List ℕ)). p y.now) xs)
      ≡ find p (map (λ (y : Bor (List ℕ)). y.now) xs)
      → option_map (λ (y : Bor (List ℕ)). y.now) (cond b (Some x) (find (λ (y : Bor (List ℕ)). p y.now) xs))
      ≡ cond b (Some x.now) (find p (map (λ (y : Bor (List ℕ)). y.now) xs))
  by_test true later = refl
  by_test false later = later

-- whether one passes, and whether all do
pub any-borrowed : (p : List ℕ → Bool) (xs : List (Bor (List ℕ)))
    → list_any (λ (x : Bor (List ℕ)). p x.now) xs ≡ list_any p (map (λ (x : Bor (List ℕ)). x.now) xs)
any-borrowed p [] = refl
any-borrowed p (x ∷ xs) = ap (λ b. p x.now || b) (any-borrowed p xs)

pub all-borrowed : (p : List ℕ → Bool) (xs : List (Bor (List ℕ)))
    → list_all (λ (x : Bor (List ℕ)). p x.now) xs ≡ list_all p (map (λ (x : Bor (List ℕ)). x.now) xs)
all-borrowed p [] = refl
all-borrowed p (x ∷ xs) = ap (λ b. p x.now && b) (all-borrowed p xs)
