-- Parts of a text between marks.
use Rattle.std.specs.Prelude.{◌≡◌, ℕ, zero, suc, ◌<◌, Bool, true, false, List, [], ◌∷◌, length, take, drop, get_or}
use Rattle.std.specs.List.{slice_split, onto_first}
use Rattle.std.proofs.Common.{◌∙◌, ap, refl, arith}
use Rattle.std.proofs.lemmas.List.Splits.{slice_split-cons_yes, slice_split-cons_no}

-- there is always a first part
pub record HasParts (p : ℕ → Bool) (xs : List ℕ) : Type 0 where
  pub first : List ℕ
  pub more : List (List ℕ)
  pub is : slice_split p xs ≡ first ∷ more

pub has_parts : (p : ℕ → Bool) (xs : List ℕ) → HasParts p xs
has_parts p [] = record { first = []; more = []; is = refl }
has_parts p (x ∷ xs) = by_mark (p x) refl (has_parts p xs) where
  by_mark : (b : Bool) → p x ≡ b → HasParts p xs → HasParts p (x ∷ xs)
  by_mark true is later = record { first = []; more = slice_split p xs; is = slice_split-cons_yes p x xs is }
  by_mark false is later = record {
    first = x ∷ later.first;
    more = later.more;
    is = slice_split-cons_no p x xs is
        ∙ ap (onto_first x) later.is;
  }

-- the first part ends at the first mark
pub cut_at : (p : ℕ → Bool) (text : List ℕ) (mark : ℕ) → mark < length text → p (get_or text mark 0) ≡ true
    → ((k : ℕ) → k < mark → p (get_or text k 0) ≡ false) → slice_split p text ≡ take mark text ∷ slice_split p (drop (suc mark) text)
cut_at p [] mark within is none = absurd (omega arith)
cut_at p (x ∷ xs) zero within is none = slice_split-cons_yes p x xs is
cut_at p (x ∷ xs) (suc mark) within is none =
    slice_split-cons_no p x xs (none 0 (omega arith))
    ∙ ap (onto_first x) (cut_at p xs mark (omega arith) is (λ k below. none (suc k) (omega arith)))

-- a text without a mark is one part
pub uncut : (p : ℕ → Bool) (text : List ℕ) → ((k : ℕ) → k < length text → p (get_or text k 0) ≡ false) → slice_split p text ≡ text ∷ []
uncut p [] none = refl
uncut p (x ∷ xs) none =
    slice_split-cons_no p x xs (none 0 (omega arith)) ∙ ap (onto_first x) (uncut p xs (λ k within. none (suc k) (omega arith)))
