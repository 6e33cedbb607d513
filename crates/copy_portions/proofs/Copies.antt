-- A copy that is made while batches change the blocks.
use Rattle.std.proofs.Common.{◌≡◌, ◌<◌, ◌≤◌, ℕ, Bool, true, false, List, [], ◌∷◌, length, inl, inr}
use Rattle.std.proofs.Common.{get_or, set, map, replicate, refl, sym, ◌∙◌, ap, subst, arith, length-set}
use Rattle.std.proofs.lemmas.Bool.{cases_eq, cases_lt}
use Rattle.std.proofs.lemmas.List.{ext_get_or, get_or-replicate, get_or-set_other, get_or-set_same, get_or_past, length-replicate}
use Rattle.std.proofs.lemmas.List.Elements.{All-head, All-tail}
use Rattle.std.specs.List.{All}
use Rattle.model.specs.Volume.{laid_over}
use Rattle.model.proofs.Blocks.{length-laid_over}
use Rattle.copy_portions.specs.Copying.{Batch, Copying, EndsAlike, Fits, IsCopyBut, LacksNone, Portion, Step, after, after_all, flagged}

-- these blocks, this copy, and which of them it lacks
abbrev pub copying : List (List ℕ) → List (List ℕ) → List Bool → Copying
copying blocks copy flags = record { blocks = blocks; copy = copy; flags = flags }

-- ---- one block

flag_shown : (flags : List Bool) (n k : ℕ) → k ≡ n → n < length flags → get_or (set flags n true) k false ≡ false → ⊥
flag_shown flags n k here low e =
    let is : true ≡ false =
    sym (get_or-set_same flags n true false low) ∙ sym (ap (λ (i : ℕ). get_or (set flags n true) i false) here) ∙ e in
    cc

-- a block of the volume changes
changed : (blocks copy : List (List ℕ)) (flags : List Bool) (n : ℕ) (image : List ℕ) → IsCopyBut (copying blocks copy flags)
    → IsCopyBut (copying (set blocks n image) copy (set flags n true))
changed blocks copy flags n image is = record {
  count = is.count ∙ sym (length-set blocks n image);
  all_flagged = length-set flags n true ∙ is.all_flagged ∙ sym (length-set blocks n image);
  alike = λ k e. elim (cases_eq k n) [
    | inl here ↦ elim (cases_lt n (length flags)) [
      | inl low ↦ absurd (flag_shown flags n k here low e)
      | inr high ↦
          let past : length copy ≤ k = omega (arith, high, here, is.count, is.all_flagged) in
          let past_too : length (set blocks n image) ≤ k = omega (arith, high, here, is.all_flagged, length-set blocks n image) in
          get_or_past copy k [] past ∙ sym (get_or_past (set blocks n image) k [] past_too)
    ]
    | inr other ↦ is.alike k (sym (get_or-set_other flags n k true false other) ∙ e) ∙ sym (get_or-set_other blocks n k image [] other)
  ];
}

-- the copy gets a block
got : (blocks copy : List (List ℕ)) (flags : List Bool) (n : ℕ) → n < length blocks → IsCopyBut (copying blocks copy flags)
    → IsCopyBut (copying blocks (set copy n (get_or blocks n [])) (set flags n false))
got blocks copy flags n low is = record {
  count = length-set copy n (get_or blocks n []) ∙ is.count;
  all_flagged = length-set flags n false ∙ is.all_flagged;
  alike = λ k e. elim (cases_eq k n) [
    | inl here ↦
        ap (λ (i : ℕ). get_or (set copy n (get_or blocks n [])) i []) here
        ∙ get_or-set_same copy n (get_or blocks n []) [] (omega (arith, low, is.count))
        ∙ sym (ap (λ (i : ℕ). get_or blocks i []) here)
    | inr other ↦
        get_or-set_other copy n k (get_or blocks n []) [] other
        ∙ is.alike k (sym (get_or-set_other flags n k false false other) ∙ e)
  ];
}

-- ---- a step

all_changed : (numbers : List ℕ) (images blocks copy : List (List ℕ)) (flags : List Bool) → length images ≡ length numbers
    → IsCopyBut (copying blocks copy flags) → IsCopyBut (copying (laid_over blocks numbers images) copy (flagged true flags numbers))
all_changed [] images blocks copy flags fits is = is
all_changed (n ∷ numbers) [] blocks copy flags fits is = absurd (omega (arith, fits))
all_changed (n ∷ numbers) (image ∷ images) blocks copy flags fits is =
    all_changed numbers images (set blocks n image) copy (set flags n true) (omega (arith, fits)) (changed blocks copy flags n image is)

all_got : (numbers : List ℕ) (blocks copy : List (List ℕ)) (flags : List Bool) → All (λ n. n < length blocks) numbers
    → IsCopyBut (copying blocks copy flags)
    → IsCopyBut (copying blocks (laid_over copy numbers (map (λ n. get_or blocks n []) numbers)) (flagged false flags numbers))
all_got [] blocks copy flags there is = is
all_got (n ∷ numbers) blocks copy flags there is =
    all_got numbers blocks (set copy n (get_or blocks n [])) (set flags n false) (All-tail (λ n. n < length blocks) n numbers there)
    (got blocks copy flags n (All-head (λ n. n < length blocks) n numbers there) is)

stepped : (step : Step) (size : ℕ) (c : Copying) → length c.blocks ≡ size → Fits size step → IsCopyBut c
    → IsCopyBut (after c step) × (length (after c step).blocks ≡ size)
stepped (Batch numbers images) size c sized fits is =
    (all_changed numbers images c.blocks c.copy c.flags fits is, length-laid_over c.blocks numbers images ∙ sized)
stepped (Portion numbers) size c sized fits is =
    (all_got numbers c.blocks c.copy c.flags (subst (λ (s : ℕ). All (λ n. n < s) numbers) (sym sized) fits) is, sized)

-- ---- all steps

all_stepped : (steps : List Step) (size : ℕ) (c : Copying) → length c.blocks ≡ size → All (Fits size) steps → IsCopyBut c
    → IsCopyBut (after_all c steps)
all_stepped [] size c sized fits is = is
all_stepped (step ∷ steps) size c sized fits is =
    let now = stepped step size c sized (All-head (Fits size) step steps fits) is in
    all_stepped steps size (after c step) now.1 (All-tail (Fits size) step steps fits) now.0

at_first : (blocks copy : List (List ℕ)) → length copy ≡ length blocks → IsCopyBut (copying blocks copy (replicate (length blocks) true))
at_first blocks copy sized = record {
  count = sized;
  all_flagged = length-replicate (length blocks) true;
  alike = λ k e. elim (cases_lt k (length blocks)) [
    | inl low ↦
        let is : true ≡ false = sym (get_or-replicate (length blocks) k true false low) ∙ e in
        cc
    | inr high ↦ get_or_past copy k [] (omega (arith, high, sized)) ∙ sym (get_or_past blocks k [] high)
  ];
}

alike_at_last : (c : Copying) → IsCopyBut c → LacksNone c.flags → c.copy ≡ c.blocks
alike_at_last c is none = ext_get_or [] c.copy c.blocks is.count (λ k low. is.alike k (none k))

pub ends_alike : EndsAlike
ends_alike blocks copy steps sized fits none =
    let first = copying blocks copy (replicate (length blocks) true) in
    alike_at_last (after_all first steps) (all_stepped steps (length blocks) first refl fits (at_first blocks copy sized)) none
