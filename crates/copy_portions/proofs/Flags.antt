-- Flags of blocks, one more at a time.
use Rattle.std.proofs.Common.{◌≡◌, ◌<◌, ◌≤◌, ℕ, zero, suc, ◌+◌, Bool, true, false, List, [], ◌∷◌, length, inl, inr}
use Rattle.std.proofs.Common.{get_or, set, take, refl, sym, ◌∙◌, ap, arith}
use Rattle.std.proofs.lemmas.Bool.{cases_eq}
use Rattle.std.proofs.lemmas.List.{get_or-set_other, get_or-set_same, get_or_past, set-get_or}
use Rattle.copy_portions.specs.Copying.{flagged, is_lacked}

-- one more number
pub flagged_more : (value : Bool) (flags : List Bool) (numbers : List ℕ) (i : ℕ) → i < length numbers
    → flagged value flags (take (i + 1) numbers) ≡ set (flagged value flags (take i numbers)) (get_or numbers i 0) value
flagged_more value flags numbers i low =
    let place : i + 1 ≡ suc i = omega arith in
    ap (λ (n : ℕ). flagged value flags (take n numbers)) place ∙ go flags numbers i low
  where
    go : (flags : List Bool) (numbers : List ℕ) (i : ℕ) → i < length numbers
        → flagged value flags (take (suc i) numbers) ≡ set (flagged value flags (take i numbers)) (get_or numbers i 0) value
    go flags [] i low = absurd (omega (arith, low))
    go flags (n ∷ numbers) zero low = refl
    go flags (n ∷ numbers) (suc i) low = go (set flags n value) numbers i (omega (arith, low))

-- a number of no block changes nothing
pub set_past : (flags : List Bool) (n : ℕ) (value : Bool) → length flags ≤ n → set flags n value ≡ flags
set_past flags n value past = ap (λ (v : Bool). set flags n v) (sym (get_or_past flags n value past)) ∙ set-get_or flags n value

-- no block before the first is lacked, though a flag was set
pub still_first : (flags : List Bool) (first next n : ℕ) (value : Bool) → n < length flags
    → ((k : ℕ) → k < first → is_lacked flags k ≡ false) → next ≤ first → (value ≡ true → next ≤ n) → (k : ℕ) → k < next
    → is_lacked (set flags n value) k ≡ false
still_first flags first next n value low none least before k within = elim (cases_eq k n) [
  | inl here ↦
      ap (λ (i : ℕ). get_or (set flags n value) i false) here ∙ get_or-set_same flags n value false low
      ∙ not_set value (λ e. omega (arith, before e, here, within))
  | inr other ↦ get_or-set_other flags n k value false other ∙ none k (omega (arith, within, least))
]
  where
    not_set : (v : Bool) → (v ≡ true → ⊥) → v ≡ false
    not_set true other = absurd (other refl)
    not_set false other = refl
