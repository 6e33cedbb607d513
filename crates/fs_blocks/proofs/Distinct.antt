-- Numbers with no two equal.
use Rattle.std.proofs.Common.{◌≡◌, inl, inr, ◌<◌, ◌≤◌, ℕ, suc, Bool, true, false, eqb, ◌||◌, List, [], ◌∷◌, ◌++◌}
use Rattle.std.proofs.Common.{length, get_or, sym, ◌∙◌, ap, subst, arith}
use Rattle.std.specs.List.{All, Contains, IsDistinct, list_any}
use Rattle.std.proofs.lemmas.List.{length_push, get_or_append_left, get_or_push, get_or_default}
use Rattle.std.proofs.lemmas.List.Elements.{All-head, All-tail, All-from_get_or, recursion_from_All}
use Rattle.std.proofs.lemmas.Bool.{cases_eq, cases_lt, ne_eqb}
use Rattle.std.proofs.lemmas.Map.Steps.{length-le_from_distinct_below}
use Rattle.model.specs.Volume.{AreDistinct}

distinct_keys : (xs : List ℕ) → AreDistinct xs → IsDistinct eqb xs
unfolding IsDistinct
distinct_keys [] distinct = tt
distinct_keys (x ∷ xs) distinct = (
  recursion_from_All (λ y. eqb x y ≡ false) xs
      (All-from_get_or (λ y. eqb x y ≡ false) xs 0 (λ k low. ne_eqb x (get_or xs k 0) (distinct 0 (suc k) (omega arith) (omega arith)))),
  distinct_keys xs (λ i j less low. distinct (suc i) (suc j) (omega arith) (omega arith)),
)

some_below : (bound q : ℕ) (xs : List ℕ) → All (λ n. n < bound) xs → list_any (eqb q) xs ≡ true → q < bound
some_below bound q [] below any = cc
some_below bound q (x ∷ xs) below any = elim (cases_eq q x) [
  | inl same ↦ subst (λ (n : ℕ). n < bound) (sym same) (All-head (λ n. n < bound) x xs below)
  | inr other ↦ some_below bound q xs (All-tail (λ n. n < bound) x xs below)
      (ap (λ (b : Bool). b || list_any (eqb q) xs) (sym (ne_eqb q x other)) ∙ any)
]

-- at most as many as there are numbers below the bound
pub few_members : (bound : ℕ) (xs : List ℕ) → All (λ n. n < bound) xs → AreDistinct xs → length xs ≤ bound
few_members bound xs below distinct =
    length-le_from_distinct_below xs bound (distinct_keys xs distinct) (λ q any. some_below bound q xs below any)

pub distinct_push : (xs : List ℕ) (n : ℕ) → AreDistinct xs → ¬ (Contains xs n) → AreDistinct (xs ++ n ∷ [])
distinct_push xs n distinct other i j less low =
    let short : i < length xs = omega (arith, length_push xs n) in
    let first : get_or (xs ++ n ∷ []) i 0 ≡ get_or xs i 0 = get_or_append_left xs (n ∷ []) 0 i short in
    elim (cases_lt j (length xs)) [
      | inl inside ↦ λ same. distinct i j less inside (sym first ∙ same ∙ get_or_append_left xs (n ∷ []) 0 j inside)
      | inr last ↦
          let end : length xs ≡ j = omega (arith, length_push xs n) in
          λ same. other (i, short, get_or_default xs i n 0 short ∙ sym first ∙ same ∙ get_or_push xs n 0 j end)
    ]

pub below_push : (bound n : ℕ) (xs : List ℕ) → All (λ n. n < bound) xs → n < bound → All (λ n. n < bound) (xs ++ n ∷ [])
below_push bound n xs below there = All-from_get_or (λ m. m < bound) (xs ++ n ∷ []) 0 (λ k low. elim (cases_lt k (length xs)) [
  | inl inside ↦ subst (λ (m : ℕ). m < bound) (sym (get_or_append_left xs (n ∷ []) 0 k inside)) (below k 0 inside)
  | inr last ↦ subst (λ (m : ℕ). m < bound) (sym (get_or_push xs n 0 k (omega (arith, length_push xs n)))) there
])
