-- The collected octets over an image.
use Rattle.std.proofs.Common.{◌≡◌, ◌⊎◌, inl, inr, ◌<◌, ◌≤◌, ℕ, ◌+◌, ◌-◌, List, length, get_or, Option, Some, None, sym, ◌∙◌, ap, subst}
use Rattle.std.proofs.Common.{arith}
use Rattle.std.specs.Option.{unwrap_or}
use Rattle.std.proofs.lemmas.List.{ext_get_or}
use Rattle.std.proofs.lemmas.Bool.{cases_lt}
use Rattle.disk.specs.Image.{part, overwritten}
use Rattle.disk.proofs.Images.{length-overwritten, overwritten_below, overwritten_above, length-part, get_or-part}
use Rattle.disk_cache.specs.Collected.{shown, MayBe, IsOver}
use Rattle.disk_cache.specs.Over.{length-shown, over_shown, shown_at}

-- where nothing was collected
pub over_none : (cs : List (Option ℕ)) (xs image : List ℕ) → ((k : ℕ) → get_or cs k None ≡ None) → IsOver cs xs image → image ≡ xs
over_none cs xs image none over =
    ext_get_or 0 image xs over.size
    (λ k within. subst (λ (c : Option ℕ). MayBe c (get_or xs k 0) (get_or image k 0)) (none k) (over.octets k))

pub shown_none : (cs : List (Option ℕ)) (xs : List ℕ) → ((k : ℕ) → get_or cs k None ≡ None) → shown cs xs ≡ xs
shown_none cs xs none = over_none cs xs (shown cs xs) none (over_shown cs xs)

-- a part of what a read gives
pub shown_part : (cs : List (Option ℕ)) (xs before into : List ℕ) (at n : ℕ) → at + n ≤ length xs → length into ≡ n → before ≡ part at n xs
    → ((k : ℕ) → k < n → get_or into k 0 ≡ unwrap_or (get_or cs (at + k) None) (get_or before k 0)) → into ≡ part at n (shown cs xs)
shown_part cs xs before into at n fits size is each =
    let sizes = length-shown cs xs in
    ext_get_or 0 into (part at n (shown cs xs)) (size ∙ sym (length-part at n (shown cs xs) (omega (arith, fits, sizes))))
    (λ k within.
    let low : k < n = omega (arith, within, size) in
    each k low
    ∙ ap (λ (o : ℕ). unwrap_or (get_or cs (at + k) None) o) (ap (λ (l : List ℕ). get_or l k 0) is ∙ get_or-part at n xs k 0 low)
    ∙ sym (shown_at cs xs (at + k) (omega (arith, low, fits)))
    ∙ sym (get_or-part at n (shown cs xs) k 0 low))

-- lists that agree at each place over an image
pub shown_ext : (cs ds : List (Option ℕ)) (xs ys : List ℕ) → length xs ≡ length ys
    → ((k : ℕ) → k < length xs → unwrap_or (get_or cs k None) (get_or xs k 0) ≡ unwrap_or (get_or ds k None) (get_or ys k 0))
    → shown cs xs ≡ shown ds ys
shown_ext cs ds xs ys sizes same =
    ext_get_or 0 (shown cs xs) (shown ds ys) (length-shown cs xs ∙ sizes ∙ sym (length-shown ds ys))
    (λ k within.
    let low : k < length xs = omega (arith, within, length-shown cs xs) in
    shown_at cs xs k low ∙ same k low ∙ sym (shown_at ds ys k (omega (arith, low, sizes))))

-- the places inside and outside of a write
pub place_cases : (at n k : ℕ) → ((k < at) ⊎ (at + n ≤ k)) ⊎ ((at ≤ k) × (k < at + n))
place_cases at n k = elim (cases_lt k at) [
  | inl below ↦ inl (inl below)
  | inr low ↦ elim (cases_lt k (at + n)) [ inl high ↦ inr (low, high) | inr above ↦ inl (inr above) ]
]

pub overwritten_outside : {A : Type 0} (at : ℕ) (octets image : List A) (d : A) → at + length octets ≤ length image → (k : ℕ)
    → (k < at) ⊎ (at + length octets ≤ k) → get_or (overwritten at octets image) k d ≡ get_or image k d
overwritten_outside at octets image d fits k (inl below) = overwritten_below at octets image fits k d below
overwritten_outside at octets image d fits k (inr above) = overwritten_above at octets image fits k d above

-- writing collected octets to the device changes nothing of what a read gives
pub shown_again : (cs : List (Option ℕ)) (xs octets : List ℕ) (at : ℕ) → at + length octets ≤ length xs
    → ((i : ℕ) → i < length octets → get_or cs (at + i) None ≡ Some (get_or octets i 0)) → shown cs (overwritten at octets xs) ≡ shown cs xs
shown_again cs xs octets at fits each =
    let size = length-overwritten at octets xs fits in
    shown_ext cs cs (overwritten at octets xs) xs size (λ k within. same k (place_cases at (length octets) k))
  where
    same : (k : ℕ) → ((k < at) ⊎ (at + length octets ≤ k)) ⊎ ((at ≤ k) × (k < at + length octets))
        → unwrap_or (get_or cs k None) (get_or (overwritten at octets xs) k 0) ≡ unwrap_or (get_or cs k None) (get_or xs k 0)
    same k (inl outside) = ap (λ (o : ℕ). unwrap_or (get_or cs k None) o) (overwritten_outside at octets xs 0 fits k outside)
    same k (inr inside) =
        let place : at + (k - at) ≡ k = omega (arith, inside.0) in
        let is : get_or cs k None ≡ Some (get_or octets (k - at) 0) = ap (λ (j : ℕ). get_or cs j None) (sym place)
        ∙ each (k - at) (omega (arith, inside.0, inside.1)) in
        ap (λ (c : Option ℕ). unwrap_or c (get_or (overwritten at octets xs) k 0)) is
        ∙ sym (ap (λ (c : Option ℕ). unwrap_or c (get_or xs k 0)) is)
