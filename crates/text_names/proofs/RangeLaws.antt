-- What a range's dash parts.
use Rattle.std.specs.Prelude.{◌≡◌, ℕ, suc, ◌+◌, ◌<◌, ◌≤◌, ◌⊎◌, Bool, true, false, ◌==◌, ◌&&◌, nat_le, List, [], ◌∷◌, length, take, drop}
use Rattle.std.specs.Prelude.{get_or, Option, Some, None, option_map, option_and_then}
use Rattle.std.specs.List.{list_all, slice_split, onto_first}
use Rattle.std.specs.Char.{is_ascii_digit}
use Rattle.std.specs.Str.Parse.{digits_value}
use Rattle.std.proofs.Common.{◌∙◌, ap, sym, refl, inl, inr, arith}
use Rattle.std.proofs.lemmas.Bool.{and_right, cond-false, eqb-true, false_from_ne_true}
use Rattle.std.proofs.lemmas.List.Splits.{slice_split-cons_yes, slice_split-cons_no}
use Rattle.model.specs.Names.{number_of, one_number, numbers_from, range_of, range_of_parts, is_run_of}
use Rattle.model.specs.declared.command.Range.{Range}
use Rattle.text_names.specs.Ranges.{range_from}
use Rattle.text_names.proofs.PartLaws.{has_parts, cut_at, uncut}

abbrev is_dash : ℕ → Bool
is_dash x = x == 45

-- a text without a dash is one part; one with a dash is no numeral, and has two parts at least
pub record IsOnePart (xs : List ℕ) : Type 0 where
  pub is : slice_split is_dash xs ≡ xs ∷ []

pub record IsMoreParts (xs : List ℕ) : Type 0 where
  pub first : List ℕ
  pub second : List ℕ
  pub more : List (List ℕ)
  pub is : slice_split is_dash xs ≡ first ∷ second ∷ more
  pub no_digits : list_all is_ascii_digit xs ≡ false

parts_of : (xs : List ℕ) → IsOnePart xs ⊎ IsMoreParts xs
parts_of [] = inl (record { is = refl })
parts_of (x ∷ xs) = by_mark (is_dash x) refl (parts_of xs) where
  by_mark : (b : Bool) → is_dash x ≡ b → IsOnePart xs ⊎ IsMoreParts xs → IsOnePart (x ∷ xs) ⊎ IsMoreParts (x ∷ xs)
  by_mark true is later =
      let rest = has_parts is_dash xs in
      inr (record {
        first = [];
        second = rest.first;
        more = rest.more;
        is = slice_split-cons_yes is_dash x xs is ∙ ap (λ l. [] ∷ l) rest.is;
        no_digits = ap (λ c. is_ascii_digit c && list_all is_ascii_digit xs) (eqb-true x 45 is);
      })
  by_mark false is (inl one) = inl (record { is = slice_split-cons_no is_dash x xs is ∙ ap (onto_first x) one.is })
  by_mark false is (inr many) = inr (record {
    first = x ∷ many.first;
    second = many.second;
    more = many.more;
    is = slice_split-cons_no is_dash x xs is ∙ ap (onto_first x) many.is;
    no_digits = and_right (is_ascii_digit x) (list_all is_ascii_digit xs) many.no_digits;
  })

-- a text that isn't of digits is no number
no_number : (xs : List ℕ) → list_all is_ascii_digit xs ≡ false → number_of xs ≡ None
no_number xs foreign =
    cond-false (nat_le (length xs) 16 && is_run_of is_ascii_digit xs) (Some (digits_value 10 xs)) None
    (and_right (nat_le (length xs) 16) (is_run_of is_ascii_digit xs)
    (and_right (nat_le 1 (length xs)) (list_all is_ascii_digit xs) foreign))

-- three parts are no range
three_parts : (a first second : List ℕ) (more : List (List ℕ)) → range_of_parts (a ∷ first ∷ second ∷ more) ≡ None
three_parts a [] second more = refl
three_parts a (x ∷ first) second more = refl

abbrev no_range : Option Range
no_range = None

none_then : (o : Option ℕ) → no_range ≡ option_and_then (λ n. no_range) o
none_then None = refl
none_then (Some n) = refl

map_then : (o : Option ℕ) → option_map numbers_from o ≡ option_and_then (λ n. Some (numbers_from n)) o
map_then None = refl
map_then (Some n) = refl

-- the parts from the first dash on are those of a range from a number on
from_parts : (a rest : List ℕ) → range_of_parts (a ∷ slice_split is_dash rest) ≡ option_and_then (λ n. range_from n rest) (number_of a)
from_parts a [] = map_then (number_of a)
from_parts a (x ∷ rest) = by_parts (parts_of (x ∷ rest)) where
  by_parts : IsOnePart (x ∷ rest) ⊎ IsMoreParts (x ∷ rest)
      → range_of_parts (a ∷ slice_split is_dash (x ∷ rest)) ≡ option_and_then (λ n. range_from n (x ∷ rest)) (number_of a)
  by_parts (inl one) = ap (λ l. range_of_parts (a ∷ l)) one.is
  by_parts (inr many) =
      ap (λ l. range_of_parts (a ∷ l)) many.is
      ∙ three_parts a many.first many.second many.more
      ∙ none_then (number_of a)
      ∙ ap (λ o. option_and_then (λ n. option_map (λ m. record { first = n; last = Some m }) o) (number_of a))
      (sym (no_number (x ∷ rest) many.no_digits))

module _ (text : List ℕ) where
  -- without a dash the text is one number
  pub range-no_dash : ((k : ℕ) → 0 ≤ k → k < length text → ¬ (is_dash (get_or text k 0) ≡ true))
      → range_of text ≡ option_map one_number (number_of text)
  range-no_dash none = ap range_of_parts (uncut is_dash text (λ k within. false_from_ne_true _ (none k (omega arith) within)))

  -- with one it is what stands on its sides
  pub range-dash : (dash : ℕ) → dash < length text → is_dash (get_or text dash 0) ≡ true
      → ((k : ℕ) → 0 ≤ k → k < dash → ¬ (is_dash (get_or text k 0) ≡ true))
      → range_of text ≡ option_and_then (λ n. range_from n (drop (dash + 1) text)) (number_of (take dash text))
  range-dash dash within is none =
      let behind : suc dash ≡ dash + 1 = omega arith in
      ap range_of_parts (cut_at is_dash text dash within is (λ k below. false_from_ne_true _ (none k (omega arith) below)))
      ∙ from_parts (take dash text) (drop (suc dash) text)
      ∙ ap (λ k. option_and_then (λ n. range_from n (drop k text)) (number_of (take dash text))) behind
