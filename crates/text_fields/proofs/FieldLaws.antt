-- The fields of a header, one after the other.
use Rattle.std.specs.Prelude.{◌≡◌, ℕ, zero, suc, ◌+◌, ◌<◌, ◌≤◌, Bool, true, false, not, ◌||◌, ◌&&◌, ◌==◌, cond, List, [], ◌∷◌, ◌++◌, length}
use Rattle.std.specs.Prelude.{take, drop, bytes_eq}
use Rattle.std.specs.List.{list_all}
use Rattle.std.proofs.Common.{sym, ◌∙◌, ap, refl, arith}
use Rattle.std.proofs.lemmas.List.{append_assoc, append-nil, drop-drop, length-drop, nil_from_length, take_all}
use Rattle.std.proofs.Math.Seq.{take-add}
use Rattle.std.proofs.lemmas.Slice.Eq.{bytes_eq-Decides}
use Rattle.std.proofs.lemmas.Bool.{cond-false, cond-true, eqb-true, false_from_ne_true, not_from_false, true≢false}
use Rattle.std.proofs.lemmas.List.Sums.{prefix_len_is}
use Rattle.memchr.specs.Find.{Nowhere, Passes, is_byte}
use Rattle.model.specs.Stream.{Octets, crlf, lines}
use Rattle.model.specs.Names.{begins, is_blank}
use Rattle.model.specs.Article.{begins_field, continues, fields, fields_of_lines, has_fields_alone, header_lines, name_of, onto_field}
use Rattle.text_fields.specs.Header.{EndsField}
use Rattle.text_fields.proofs.HeaderLaws.{header_lines-empty, header_lines-end, header_lines-line, least_line}

-- a line that continues the field before it is a part of that field
fields-joined : (front line : Octets) (later : List Octets) → begins is_blank line ≡ true
    → fields_of_lines (front ∷ line ∷ later) ≡ fields_of_lines ((front ++ line) ∷ later)
unfolding fields_of_lines
fields-joined front line later blank =
    cond-true (begins is_blank line) (onto_field front (fields_of_lines (line ∷ later))) (front ∷ fields_of_lines (line ∷ later)) blank
    ∙ by_next (continues later) (fields_of_lines later)
  where
    by_next : (b : Bool) (fs : List Octets)
        → onto_field front (cond b (onto_field line fs) (line ∷ fs)) ≡ cond b (onto_field (front ++ line) fs) ((front ++ line) ∷ fs)
    by_next true [] = refl
    by_next true (f ∷ fs) = ap (λ h. h ∷ fs) (sym (append_assoc front line f))
    by_next false fs = refl

fields-apart : (front : Octets) (later : List Octets) → continues later ≡ false
    → fields_of_lines (front ∷ later) ≡ front ∷ fields_of_lines later
unfolding fields_of_lines
fields-apart front later is = cond-false (continues later) (onto_field front (fields_of_lines later)) (front ∷ fields_of_lines later) is

-- the empty line isn't blank
blank-line : (line : Octets) → begins is_blank line ≡ true → bytes_eq line crlf ≡ false
blank-line [] is = refl
blank-line (x ∷ rest) is = by_test (bytes_eq (x ∷ rest) crlf) refl where
  by_test : (b : Bool) → bytes_eq (x ∷ rest) crlf ≡ b → b ≡ false
  by_test false e = refl
  by_test true e = absurd (true≢false (sym is ∙ ap (begins is_blank) ((bytes_eq-Decides (x ∷ rest) crlf).0 e)))

-- a first line begins as its text does
begins-take : (text : Octets) (n : ℕ) → 0 < n → begins is_blank (take n text) ≡ begins is_blank text
begins-take text zero some = absurd (omega arith)
begins-take [] (suc n) some = refl
begins-take (x ∷ rest) (suc n) some = refl

-- the first `end` octets are one field's, and what is left follows them
pub record GoesOn (text : Octets) (first : ℕ) (rest : Octets) (end : ℕ) : Type 0 where
  pub low : first ≤ end
  pub within : end ≤ length text
  pub place : rest ≡ drop end text
  pub same : fields_of_lines (take first text ∷ header_lines (drop first text)) ≡ fields_of_lines (take end text ∷ header_lines rest)

pub GoesOn-start : (text rest : Octets) (first : ℕ) → first ≤ length text → rest ≡ drop first text → GoesOn text first rest first
GoesOn-start text rest first within place = record {
  low = omega arith;
  within = within;
  place = place;
  same = ap (λ r. fields_of_lines (take first text ∷ header_lines r)) (sym place);
}

-- one line further
pub GoesOn-line : (text : Octets) (first : ℕ) (rest line later : Octets) (end n : ℕ) → GoesOn text first rest end
    → begins is_blank rest ≡ true → 0 < n → n ≤ length rest → line ≡ take n rest → later ≡ drop n rest
    → lines rest ≡ take n rest ∷ lines (drop n rest) → GoesOn text first later (end + n)
GoesOn-line text first rest line later end n before blank some fits front back is =
    let same : lines rest ≡ line ∷ lines later = is ∙ ap (λ l. l ∷ lines (drop n rest)) (sym front) ∙ ap (λ l. line ∷ lines l) (sym back) in
    let blank_line : begins is_blank line ≡ true = ap (begins is_blank) front ∙ begins-take rest n some ∙ blank in
    record {
      low = omega (arith, before.low);
      within = omega (arith, before.within, fits, ap length before.place, length-drop end text);
      place = back ∙ ap (drop n) before.place ∙ drop-drop n end text;
      same =
          before.same ∙ ap (λ ls. fields_of_lines (take end text ∷ ls))
          (header_lines-line rest line later same (blank-line line blank_line))
          ∙ fields-joined (take end text) line (header_lines later) blank_line
          ∙ ap (λ l. fields_of_lines ((take end text ++ l) ∷ header_lines later)) (front ∙ ap (take n) before.place)
          ∙ ap (λ l. fields_of_lines (l ∷ header_lines later)) (sym (take-add end n text));
    }

-- a text that doesn't begin with a blank continues no field
not_continued : (rest : Octets) → begins is_blank rest ≡ false → continues (header_lines rest) ≡ false
not_continued [] is = ap continues header_lines-empty
not_continued (x ∷ rest) is = by_first (least_line (x ∷ rest) (omega arith)) where
  by_first : ((n : ℕ) × (0 < n) × (lines (x ∷ rest) ≡ take n (x ∷ rest) ∷ lines (drop n (x ∷ rest))))
      → continues (header_lines (x ∷ rest)) ≡ false
  by_first (n, some, first) = by_empty (bytes_eq (take n (x ∷ rest)) crlf) refl where
    by_empty : (b : Bool) → bytes_eq (take n (x ∷ rest)) crlf ≡ b → continues (header_lines (x ∷ rest)) ≡ false
    by_empty true ends = ap continues (header_lines-end (x ∷ rest) (take n (x ∷ rest)) (drop n (x ∷ rest)) first ends)
    by_empty false other =
        ap continues (header_lines-line (x ∷ rest) (take n (x ∷ rest)) (drop n (x ∷ rest)) first other)
        ∙ begins-take (x ∷ rest) n some ∙ is

-- where the next line doesn't continue the field, the field ends
pub EndsField-found : (text : Octets) (first : ℕ) (rest : Octets) (end : ℕ) → GoesOn text first rest end → begins is_blank rest ≡ false
    → EndsField text first end
EndsField-found text first rest end before is =
    before.same ∙ fields-apart (take end text) (header_lines rest) (not_continued rest is)
    ∙ ap (λ r. take end text ∷ fields r) before.place

-- the name ends at the first colon
pub name_of-found : (field : Octets) (end : ℕ) → end < length field → Nowhere (Passes (is_byte 58) field) 0 end
    → Passes (is_byte 58) field end → take end field ≡ name_of field
name_of-found field end within before found =
    ap (λ n. take n field) (sym (prefix_len_is (λ x. not (x == 58)) field end 0 (omega arith)
    (λ k below. not_from_false _ (false_from_ne_true _ (before k (omega arith) below))) (λ below. ap not found)))

pub name_of-none : (field : Octets) → Nowhere (Passes (is_byte 58) field) 0 (length field) → field ≡ name_of field
name_of-none field none =
    sym (take_all (length field) field (omega arith))
    ∙ ap (λ n. take n field) (sym (prefix_len_is (λ x. not (x == 58)) field (length field) 0 (omega arith)
    (λ k below. not_from_false _ (false_from_ne_true _ (none k (omega arith) below))) (λ below. absurd (omega arith))))

-- ---- each header line

abbrev pub is_field_line : Octets → Bool
is_field_line line = begins is_blank line || begins_field line

module _ (rest line later : Octets) (n : ℕ) (first : lines rest ≡ take n rest ∷ lines (drop n rest)) (front : line ≡ take n rest)
    (back : later ≡ drop n rest) where
  abbrev same : lines rest ≡ line ∷ lines later
  same = first ∙ ap (λ l. l ∷ lines (drop n rest)) (sym front) ∙ ap (λ l. line ∷ lines l) (sym back)

  pub all-line : bytes_eq line crlf ≡ false → is_field_line line ≡ true
      → list_all is_field_line (header_lines rest) ≡ list_all is_field_line (header_lines later)
  all-line other is = ap (list_all is_field_line) (header_lines-line rest line later same other)
      ∙ ap (λ b. b && list_all is_field_line (header_lines later)) is

  pub all-bad : bytes_eq line crlf ≡ false → is_field_line line ≡ false → list_all is_field_line (header_lines rest) ≡ false
  all-bad other is = ap (list_all is_field_line) (header_lines-line rest line later same other)
      ∙ ap (λ b. b && list_all is_field_line (header_lines later)) is

  pub all-end : bytes_eq line crlf ≡ true → list_all is_field_line (header_lines rest) ≡ true
  all-end ends = ap (list_all is_field_line) (header_lines-end rest line later same ends)

  pub alone-line : (begins : Bool) → bytes_eq line crlf ≡ false → begins ≡ begins_field line
      → (begins && list_all is_field_line (header_lines later)) ≡ has_fields_alone (header_lines rest)
  alone-line begins other is =
      ap (λ b. b && list_all is_field_line (header_lines later)) is
      ∙ sym (ap has_fields_alone (header_lines-line rest line later same other))

  pub alone-end : bytes_eq line crlf ≡ true → has_fields_alone (header_lines rest) ≡ true
  alone-end ends = ap has_fields_alone (header_lines-end rest line later same ends)

  -- the first field is appended to those before it
  pub fields-more : (before : List Octets) (end : ℕ) (field after : Octets) (all : List Octets) → bytes_eq line crlf ≡ false
      → EndsField rest n end → field ≡ take end rest → after ≡ drop end rest
      → before ++ fields rest ≡ all → (before ++ field ∷ []) ++ fields after ≡ all
  fields-more before end field after all other ends front' back' so_far =
      append_assoc before (field ∷ []) (fields after)
      ∙ ap (λ fs. before ++ fs) (ap (λ f. f ∷ fields after) front' ∙ ap (λ a. take end rest ∷ fields a) back' ∙ sym ends
      ∙ ap (λ l. fields_of_lines (l ∷ header_lines (drop n rest))) (sym front)
      ∙ ap (λ l. fields_of_lines (line ∷ header_lines l)) (sym back)
      ∙ ap fields_of_lines (sym (header_lines-line rest line later same other)))
      ∙ so_far

  pub fields-end : (before all : List Octets) → bytes_eq line crlf ≡ true → before ++ fields rest ≡ all → before ≡ all
  unfolding fields_of_lines
  fields-end before all ends so_far =
      sym (append-nil before) ∙ ap (λ ls. before ++ fields_of_lines ls) (sym (header_lines-end rest line later same ends)) ∙ so_far

pub all-empty : (rest : Octets) → (length rest == 0) ≡ true → list_all is_field_line (header_lines rest) ≡ true
all-empty rest none = ap (λ r. list_all is_field_line (header_lines r)) (nil_from_length rest (eqb-true _ _ none))
    ∙ ap (list_all is_field_line) header_lines-empty

pub alone-empty : (rest : Octets) → (length rest == 0) ≡ true → has_fields_alone (header_lines rest) ≡ true
alone-empty rest none = ap (λ r. has_fields_alone (header_lines r)) (nil_from_length rest (eqb-true _ _ none))
    ∙ ap has_fields_alone header_lines-empty

pub fields-empty : (before all : List Octets) (rest : Octets) → (length rest == 0) ≡ true → before ++ fields rest ≡ all → before ≡ all
unfolding fields_of_lines
fields-empty before all rest none so_far =
    sym (append-nil before) ∙ ap (λ ls. before ++ fields_of_lines ls)
    (sym (ap header_lines (nil_from_length rest (eqb-true _ _ none)) ∙ header_lines-empty)) ∙ so_far
