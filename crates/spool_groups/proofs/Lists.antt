-- Loops over lists: an element, and whether one passes.
use Rattle.std.proofs.Common.{◌≡◌, ℕ, zero, suc, ◌+◌, ◌<◌, List, [], ◌∷◌, ◌∙◌, length, map, get_or, take, drop, refl, sym, ap, arith}
use Rattle.std.proofs.Common.{Bool, false}
use Rattle.std.specs.Prelude.{Some, slice_get, ◌||◌}
use Rattle.std.specs.List.{list_any}
use Rattle.std.proofs.Math.Seq.{drop-nil}
use Rattle.std.proofs.lemmas.List.{take-append-drop}
use Rattle.std.proofs.lemmas.List.Folds.{list_any-append}

-- ---- an element

pub got : {X : Type 0} (xs : List X) (k : ℕ) (d : X) → k < length xs → slice_get xs k ≡ Some (get_or xs k d)
got [] k d low = absurd (omega arith)
got (x ∷ xs) zero d low = refl
got (x ∷ xs) (suc k) d low = got xs k d (omega arith)

pub got_dropped : {X : Type 0} (xs : List X) (n k : ℕ) → slice_get (drop n xs) k ≡ slice_get xs (n + k)
got_dropped {X} [] n k = ap (λ (l : List X). slice_get l k) (drop-nil n)
got_dropped (x ∷ xs) zero k = let same : k ≡ 0 + k = omega arith in ap (slice_get (x ∷ xs)) same
got_dropped (x ∷ xs) (suc n) k =
    let next : suc (n + k) ≡ suc n + k = omega arith in
    got_dropped xs n k ∙ ap (slice_get (x ∷ xs)) next

-- ---- whether one passes

-- the first ones may be left out if none of them passes
pub any_rest : {X : Type 0} (p : X → Bool) (xs : List X) (k : ℕ) → list_any p (take k xs) ≡ false
    → list_any p (drop k xs) ≡ list_any p xs
any_rest p xs k none =
    sym (ap (list_any p) (sym (take-append-drop k xs)) ∙ list_any-append p (take k xs) (drop k xs)
    ∙ ap (λ (b : Bool). b || list_any p (drop k xs)) none)

pub none_listed : {X : Type 0} (p : X → Bool) (xs : List X) → length xs ≡ 0 → list_any p xs ≡ false
none_listed p [] none = refl
none_listed p (x ∷ xs) none = absurd (omega arith)

pub any_mapped : {X Y : Type 0} (f : X → Y) (p : Y → Bool) (xs : List X) → list_any p (map f xs) ≡ list_any (λ x. p (f x)) xs
any_mapped f p [] = refl
any_mapped f p (x ∷ xs) = ap (λ (b : Bool). p (f x) || b) (any_mapped f p xs)
