-- The header of a text, line by line.
use Rattle.std.specs.Prelude.{◌≡◌, ℕ, zero, suc, ◌+◌, ◌<◌, ◌≤◌, Bool, true, false, not, ◌||◌, cond, List, [], ◌∷◌, ◌++◌, length, take, drop}
use Rattle.std.specs.Prelude.{bytes_eq}
use Rattle.std.specs.List.{concat, list_any, onto_first, prefix_len, take_while}
use Rattle.std.proofs.Common.{sym, ◌∙◌, ap, inl, inr, refl, arith}
use Rattle.std.proofs.lemmas.List.{append_assoc, append-nil, drop_all, drop-drop, length-drop, nil_from_length, take_all}
use Rattle.std.proofs.Math.Seq.{take-add}
use Rattle.std.proofs.lemmas.Slice.Eq.{bytes_eq-Decides}
use Rattle.std.proofs.lemmas.Bool.{true≢false, not_from_false, lt-ltb, le-ltb}
use Rattle.model.specs.Stream.{Octets, crlf, lines, lines_after, EndsAt}
use Rattle.model.specs.Article.{body, has_empty_line, header, header_lines}
use Rattle.model.specs.declared.message.Mode.TheVariants as mode
use Rattle.model.proofs.LineLaws.{lines-empty, lines-line, lines-rest}
use Rattle.model.proofs.Stored.{taken}
use Rattle.model.proofs.StreamLaws.{end_cases}
use Rattle.text_fields.specs.Header.{IsHeader}

not_taken : (q : Octets → Bool) (x : Octets) (xs : List Octets) → q x ≡ false → take_while q (x ∷ xs) ≡ []
not_taken q x xs is = ap (λ b. take (cond b (1 + prefix_len q xs) 0) (x ∷ xs)) is

pub header_lines-empty : header_lines [] ≡ []
header_lines-empty = ap (take_while (λ line. not (bytes_eq line crlf))) lines-empty

concat-onto_first : (x : ℕ) (parts : List Octets) → concat (onto_first x parts) ≡ x ∷ concat parts
concat-onto_first x [] = refl
concat-onto_first x (part ∷ parts) = refl

concat-lines_after : (before : ℕ) (text : Octets) → concat (lines_after before text) ≡ text
unfolding lines_after
concat-lines_after before [] = refl
concat-lines_after before (x ∷ rest) = by_test (bytes_eq crlf (before ∷ x ∷ [])) (concat-lines_after x rest) where
  by_test : (b : Bool) → concat (lines_after x rest) ≡ rest
      → concat (cond b ((x ∷ []) ∷ lines_after x rest) (onto_first x (lines_after x rest))) ≡ x ∷ rest
  by_test true later = ap (λ l. x ∷ l) later
  by_test false later = concat-onto_first x (lines_after x rest) ∙ ap (λ l. x ∷ l) later

-- the lines are the text
pub concat-lines : (text : Octets) → concat (lines text) ≡ text
concat-lines text = concat-lines_after 0 text

-- a text that isn't empty begins with a line
pub least_line : (text : Octets) → 0 < length text → (n : ℕ) × (0 < n) × (lines text ≡ take n text ∷ lines (drop n text))
least_line text some = elim (end_cases mode.Line text) [
  | inl ends ↦ (ends.0, ends_late ends.0 ends.1, lines-line text ends.0 ends.1)
  | inr never ↦ (
    length text,
    some,
    lines-rest text some never ∙ ap (λ l. l ∷ []) (sym (take_all (length text) text (omega arith)))
        ∙ ap (λ l. take (length text) text ∷ l) (sym (ap lines (drop_all (length text) text (omega arith)) ∙ lines-empty)),
  )
]
  where
    ends_late : (n : ℕ) → EndsAt mode.Line text n → 0 < n
    ends_late zero at = absurd (true≢false (sym at.ends))
    ends_late (suc n) at = omega arith

-- a text that begins with a line
module _ (text line later : Octets) (first : lines text ≡ line ∷ lines later) where
  pub header_lines-line : bytes_eq line crlf ≡ false → header_lines text ≡ line ∷ header_lines later
  header_lines-line other = ap (take_while (λ l. not (bytes_eq l crlf))) first
      ∙ taken (λ l. not (bytes_eq l crlf)) line (lines later) (not_from_false _ other)

  pub header_lines-end : bytes_eq line crlf ≡ true → header_lines text ≡ []
  header_lines-end ends = ap (take_while (λ l. not (bytes_eq l crlf))) first
      ∙ not_taken (λ l. not (bytes_eq l crlf)) line (lines later) (ap not ends)

  pub header-line : bytes_eq line crlf ≡ false → header text ≡ line ++ header later
  header-line other = ap concat (header_lines-line other)

  pub body-line : bytes_eq line crlf ≡ false → body text ≡ body later
  body-line other =
      ap (λ ls. concat (drop (length ls + 1) (lines text))) (header_lines-line other)
      ∙ ap (λ ls. concat (drop (length (line ∷ header_lines later) + 1) ls)) first
      ∙ ap (λ n. concat (drop n (line ∷ lines later)))
      (let e : length (line ∷ header_lines later) + 1 ≡ suc (length (header_lines later) + 1) = omega arith in e)

  pub body-end : bytes_eq line crlf ≡ true → body text ≡ later
  body-end ends =
      ap (λ ls. concat (drop (length ls + 1) (lines text))) (header_lines-end ends)
      ∙ ap (λ ls. concat (drop 1 ls)) first ∙ concat-lines later

  pub empty_line-line : bytes_eq line crlf ≡ false → has_empty_line text ≡ has_empty_line later
  empty_line-line other = ap (list_any (λ l. bytes_eq l crlf)) first ∙ ap (λ b. b || has_empty_line later) other

  pub empty_line-end : bytes_eq line crlf ≡ true → has_empty_line text ≡ true
  empty_line-end ends = ap (list_any (λ l. bytes_eq l crlf)) first ∙ ap (λ b. b || has_empty_line later) ends

-- the first `at` octets are lines of the header, and what is left follows them
pub record IsAt (text rest : Octets) (at : ℕ) : Type 0 where
  pub within : at ≤ length text
  pub place : rest ≡ drop at text
  pub header : header text ≡ take at text ++ header rest
  pub body : body text ≡ body rest
  pub ends : has_empty_line text ≡ has_empty_line rest

pub IsAt-start : (text : Octets) → IsAt text text 0
IsAt-start text = record { within = omega arith; place = refl; header = refl; body = refl; ends = refl }

-- one line further
pub IsAt-line : (text rest line later : Octets) (at n : ℕ) → IsAt text rest at → n ≤ length rest → line ≡ take n rest → later ≡ drop n rest
    → lines rest ≡ take n rest ∷ lines (drop n rest)
    → bytes_eq line crlf ≡ false → IsAt text later (at + n)
IsAt-line text rest line later at n before fits front back first other =
    let same : lines rest ≡ line ∷ lines later = first ∙ ap (λ l. l ∷ lines (drop n rest)) (sym front)
    ∙ ap (λ l. line ∷ lines l) (sym back) in
    record {
      within = omega (arith, before.within, fits, ap length before.place, length-drop at text);
      place = back ∙ ap (drop n) before.place ∙ drop-drop n at text;
      header =
          before.header ∙ ap (λ h. take at text ++ h) (header-line rest line later same other)
          ∙ sym (append_assoc (take at text) line (header later))
          ∙ ap (λ l. (take at text ++ l) ++ header later) (front ∙ ap (take n) before.place)
          ∙ ap (λ l. l ++ header later) (sym (take-add at n text));
      body = before.body ∙ body-line rest line later same other;
      ends = before.ends ∙ empty_line-line rest line later same other;
    }

-- at the empty line
pub IsHeader-end : (text rest line later : Octets) (at n : ℕ) → IsAt text rest at → n ≤ length rest → line ≡ take n rest
    → later ≡ drop n rest → length line ≡ n → lines rest ≡ take n rest ∷ lines (drop n rest)
    → bytes_eq line crlf ≡ true → IsHeader text at
IsHeader-end text rest line later at n before fits front back size first ends =
    let same : lines rest ≡ line ∷ lines later = first ∙ ap (λ l. l ∷ lines (drop n rest)) (sym front)
    ∙ ap (λ l. line ∷ lines l) (sym back) in
    let two : 2 ≡ n = sym (ap length ((bytes_eq-Decides line crlf).0 ends)) ∙ size in
    let none : header rest ≡ [] = ap concat (header_lines-end rest line later same ends) in
    record {
      within = before.within;
      header = before.header ∙ ap (λ h. take at text ++ h) none ∙ append-nil (take at text);
      body =
          before.body ∙ body-end rest line later same ends ∙ back ∙ ap (λ k. drop k rest) (sym two) ∙ ap (drop 2) before.place
          ∙ drop-drop 2 at text;
      ends = before.ends ∙ empty_line-end rest line later same ends
          ∙ sym (lt-ltb _ _ (omega (arith, fits, two, ap length before.place, length-drop at text)));
      room = λ below. omega (arith, fits, two, ap length before.place, length-drop at text);
    }

-- at the end of a text without one
pub IsHeader-rest : (text rest : Octets) (at : ℕ) → IsAt text rest at → length rest ≡ 0 → IsHeader text at
IsHeader-rest text rest at before none =
    let empty : rest ≡ [] = nil_from_length rest none in
    let short : length text ≤ at = omega (arith, none, ap length before.place, length-drop at text) in
    record {
      within = before.within;
      header = before.header ∙ ap (λ r. take at text ++ header r) empty ∙ ap (λ h. take at text ++ concat h) header_lines-empty
          ∙ append-nil (take at text);
      body =
          before.body ∙ ap body empty ∙ ap (λ h. concat (drop (length h + 1) (lines []))) header_lines-empty
          ∙ ap (λ ls. concat (drop 1 ls)) lines-empty
          ∙ sym (drop_all (at + 2) text (omega arith));
      ends = before.ends ∙ ap has_empty_line empty ∙ ap (list_any (λ line. bytes_eq line crlf)) lines-empty ∙ sym (le-ltb _ _ short);
      room = λ below. absurd (omega arith);
    }

-- the lines of the text after some of its lines
pub lines-drop : (k : ℕ) (text : Octets) → lines (concat (drop k (lines text))) ≡ drop k (lines text)
lines-drop zero text = ap lines (concat-lines text)
lines-drop (suc k) [] = ap (λ l. lines (concat (drop (suc k) l))) lines-empty ∙ lines-empty ∙ sym (ap (drop (suc k)) lines-empty)
lines-drop (suc k) (x ∷ rest) =
    let first = least_line (x ∷ rest) (omega arith) in
    ap (λ l. lines (concat (drop (suc k) l))) first.2 ∙ lines-drop k (drop first.0 (x ∷ rest)) ∙ sym (ap (drop (suc k)) first.2)
