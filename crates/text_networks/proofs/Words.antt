-- The words of a text, with a space between two of them.
use Rattle.std.specs.Prelude.{◌≡◌, ℕ, zero, suc, ◌<◌, Bool, true, false, List, [], ◌∷◌, length, take, drop, get_or}
use Rattle.std.specs.List.{slice_split, onto_first}
use Rattle.std.proofs.Common.{◌∙◌, ap, refl, arith}
use Rattle.std.proofs.lemmas.List.Splits.{slice_split-cons_yes, slice_split-cons_no, length-slice_split}

-- the first word ends at the first space
pub cut_at : (p : ℕ → Bool) (text : List ℕ) (mark : ℕ) → mark < length text → p (get_or text mark 0) ≡ true
    → ((k : ℕ) → k < mark → p (get_or text k 0) ≡ false) → slice_split p text ≡ take mark text ∷ slice_split p (drop (suc mark) text)
cut_at p [] mark within is none = absurd (omega arith)
cut_at p (x ∷ xs) zero within is none = slice_split-cons_yes p x xs is
cut_at p (x ∷ xs) (suc mark) within is none =
    slice_split-cons_no p x xs (none 0 (omega arith))
    ∙ ap (onto_first x) (cut_at p xs mark (omega arith) is (λ k below. none (suc k) (omega arith)))

-- a text without a space is one word
pub uncut : (p : ℕ → Bool) (text : List ℕ) → ((k : ℕ) → k < length text → p (get_or text k 0) ≡ false) → slice_split p text ≡ text ∷ []
uncut p [] none = refl
uncut p (x ∷ xs) none =
    slice_split-cons_no p x xs (none 0 (omega arith)) ∙ ap (onto_first x) (uncut p xs (λ k within. none (suc k) (omega arith)))

-- there is always a word
pub some_word : (p : ℕ → Bool) (text : List ℕ) → slice_split p text ≡ [] → ⊥
some_word p text none = omega (arith, length-slice_split p text, ap length none)
