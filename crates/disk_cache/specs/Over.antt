-- Images that a crash may leave over those of the device below.
use Rattle.std.proofs.Common.{◌≡◌, ◌⊎◌, inl, inr, ◌<◌, ◌≤◌, ℕ, zero, suc, List, [], ◌∷◌, length, get_or, Option, Some, None, refl, sym, ◌∙◌}
use Rattle.std.proofs.Common.{ap, subst, arith}
use Rattle.std.specs.Option.{unwrap_or}
use Rattle.std.proofs.lemmas.List.{get_or_past}
use Rattle.std.proofs.lemmas.Bool.{cases_lt}
use Rattle.disk_cache.specs.Collected.{shown, MayBe, IsOver}

pub length-shown : (cs : List (Option ℕ)) (xs : List ℕ) → length (shown cs xs) ≡ length xs
length-shown [] xs = refl
length-shown (c ∷ cs) [] = refl
length-shown (None ∷ cs) (x ∷ xs) = ap suc (length-shown cs xs)
length-shown (Some c ∷ cs) (x ∷ xs) = ap suc (length-shown cs xs)

pub shown_at : (cs : List (Option ℕ)) (xs : List ℕ) (k : ℕ) → k < length xs
    → get_or (shown cs xs) k 0 ≡ unwrap_or (get_or cs k None) (get_or xs k 0)
shown_at [] xs k within = refl
shown_at (c ∷ cs) [] k within = absurd (omega (arith, within))
shown_at (None ∷ cs) (x ∷ xs) zero within = refl
shown_at (None ∷ cs) (x ∷ xs) (suc k) within = shown_at cs xs k (omega (arith, within))
shown_at (Some c ∷ cs) (x ∷ xs) zero within = refl
shown_at (Some c ∷ cs) (x ∷ xs) (suc k) within = shown_at cs xs k (omega (arith, within))

maybe_same : (c : Option ℕ) (x : ℕ) → MayBe c x x
maybe_same None x = refl
maybe_same (Some c) x = inl refl

maybe_shown : (c : Option ℕ) (x : ℕ) → MayBe c x (unwrap_or c x)
maybe_shown None x = refl
maybe_shown (Some c) x = inr (inl refl)

-- what a read gives is an image that a crash may leave
pub over_shown : (cs : List (Option ℕ)) (xs : List ℕ) → IsOver cs xs (shown cs xs)
over_shown cs xs = record {
  size = length-shown cs xs;
  octets = λ k. each k (cases_lt k (length xs));
}
  where
    each : (k : ℕ) → (k < length xs) ⊎ (length xs ≤ k) → MayBe (get_or cs k None) (get_or xs k 0) (get_or (shown cs xs) k 0)
    each k (inl within) = subst (λ (o : ℕ). MayBe (get_or cs k None) (get_or xs k 0) o) (sym (shown_at cs xs k within))
        (maybe_shown (get_or cs k None) (get_or xs k 0))
    each k (inr past) =
        let size = length-shown cs xs in
        let same : get_or (shown cs xs) k 0 ≡ get_or xs k 0 = get_or_past (shown cs xs) k 0 (omega (arith, past, size))
        ∙ sym (get_or_past xs k 0 past) in
        subst (λ (o : ℕ). MayBe (get_or cs k None) (get_or xs k 0) o) (sym same) (maybe_same (get_or cs k None) (get_or xs k 0))

-- so is each image of the device
pub over_same : (cs : List (Option ℕ)) (xs : List ℕ) → IsOver cs xs xs
over_same cs xs = record { size = refl; octets = λ k. maybe_same (get_or cs k None) (get_or xs k 0) }
