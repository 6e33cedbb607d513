-- How long the overview line of an article is, and its record.
use Rattle.std.proofs.Common.{◌≡◌, ◌<◌, ◌≤◌, ◌^◌, ℕ, suc, ◌+◌, ◌-◌, List, [], ◌∷◌, ◌++◌, length, take, drop, refl, sym, ◌∙◌, ap, arith}
use Rattle.std.proofs.Common.{Bool, true, false, cond, length-append}
use Rattle.std.specs.Prelude.{flat_map, find, not, ◌||◌, ◌==◌, nat_le, codes, bytes_eq, nat_eq, decimal, option_map, unwrap_or, Option}
use Rattle.std.specs.Prelude.{Some, None}
use Rattle.std.specs.List.{concat, ends_with, list_any, onto_first, prefix_len, sum_by}
use Rattle.std.specs.Str.{str_to_ascii_lowercase}
use Rattle.std.proofs.lemmas.Bool.{and_parts, or_parts, leb-true, true≢false}
use Rattle.std.proofs.lemmas.Fmt.{length-decimal-le}
use Rattle.std.proofs.lemmas.List.{length-take, length-drop, length-map}
use Rattle.std.proofs.lemmas.List.Sums.{sum_by-cons}
use Rattle.std.proofs.lemmas.Slice.Eq.{bytes_eq-Decides}
use Rattle.model.specs.Stream.{Octets, crlf, lines, lines_after}
use Rattle.model.specs.Article.{Carried, body_lines, cause, content, content_of, continues, field_count, fields, fields_of_lines, header}
use Rattle.model.specs.Article.{header_lines, is_named, line_text, name_of, needed_fields, onto_field, overview_field, overview_line}
use Rattle.model.specs.Article.{is_blank_field, written_fields, added_fields, unfolded}
use Rattle.model.proofs.HoldsOne.{carried_cause, carried_short, carried_size}
use Rattle.model.proofs.Ids.{field_counted, no_cause}

-- ---- lines have the octets of their text

onto_size : (x : ℕ) (ls : List Octets) → length (concat (onto_first x ls)) ≡ suc (length (concat ls))
onto_size x [] = refl
onto_size x (l ∷ ls) = refl

onto_count : (x : ℕ) (ls : List Octets) → length (onto_first x ls) ≤ suc (length ls)
onto_count x [] = omega arith
onto_count x (l ∷ ls) = omega arith

lines_size : (before : ℕ) (text : Octets) → length (concat (lines_after before text)) ≡ length text
unfolding lines_after
lines_size before [] = refl
lines_size before (x ∷ rest) = by_end (bytes_eq crlf (before ∷ x ∷ [])) (lines_size x rest) where
  by_end : (b : Bool) → length (concat (lines_after x rest)) ≡ length rest
      → length (concat (cond b ((x ∷ []) ∷ lines_after x rest) (onto_first x (lines_after x rest)))) ≡ suc (length rest)
  by_end true same = ap suc same
  by_end false same = onto_size x (lines_after x rest) ∙ ap suc same

pub lines_count : (before : ℕ) (text : Octets) → length (lines_after before text) ≤ length text
unfolding lines_after
lines_count before [] = omega arith
lines_count before (x ∷ rest) = by_end (bytes_eq crlf (before ∷ x ∷ [])) (lines_count x rest) where
  by_end : (b : Bool) → length (lines_after x rest) ≤ length rest
      → length (cond b ((x ∷ []) ∷ lines_after x rest) (onto_first x (lines_after x rest))) ≤ suc (length rest)
  by_end true few = omega arith
  by_end false few = omega (arith, onto_count x (lines_after x rest), few)

line_text_size : (line : Octets) → length (line_text line) ≤ length line
line_text_size line = by_end (ends_with nat_eq line crlf) where
  by_end : (b : Bool) → length (cond b (take (length line - 2) line) line) ≤ length line
  by_end true = omega (arith, length-take (length line - 2) line)
  by_end false = omega arith

joined_less : (ls : List Octets) → length (flat_map line_text ls) ≤ length (concat ls)
joined_less [] = omega arith
joined_less (l ∷ ls) = omega (
  arith,
  length-append (line_text l) (flat_map line_text ls),
  length-append l (concat ls),
  line_text_size l,
  joined_less ls,
)

unfolded_size : (text : Octets) → length (unfolded text) ≤ length text
unfolded_size text = omega (arith, joined_less (lines text), lines_size 0 text)

-- ---- fields

name_size : (f : Octets) → length (name_of f) ≤ length f
name_size f = omega (arith, length-take (prefix_len (λ x. not (x == 58)) f) f)

content_less : (f : Octets) → length (content_of f) + length (name_of f) ≤ length f
content_less f = omega (arith, unfolded_size (drop (length (name_of f) + 2) f), length-drop (length (name_of f) + 2) f, name_size f)

onto_field_size : (line : Octets) (fs : List Octets) → length (concat (onto_field line fs)) ≡ length line + length (concat fs)
onto_field_size line [] = omega (arith, length-append line [])
onto_field_size line (f ∷ fs) = omega (arith, length-append (line ++ f) (concat fs), length-append line f, length-append f (concat fs))

fields_size : (ls : List Octets) → length (concat (fields_of_lines ls)) ≡ length (concat ls)
unfolding fields_of_lines
fields_size [] = refl
fields_size (line ∷ later) = by_first (continues later) (fields_size later) where
  by_first : (b : Bool) → length (concat (fields_of_lines later)) ≡ length (concat later)
      → length (concat (cond b (onto_field line (fields_of_lines later)) (line ∷ fields_of_lines later))) ≡ length (line ++ concat later)
  by_first true same = omega (arith, onto_field_size line (fields_of_lines later), length-append line (concat later), same)
  by_first false same = omega (arith, length-append line (concat (fields_of_lines later)), length-append line (concat later), same)

lower_size : (xs : Octets) → length (str_to_ascii_lowercase xs) ≡ length xs
lower_size xs = length-map xs _

named_size : (name f : Octets) → is_named name f ≡ true → length (name_of f) ≡ length name
named_size name f is =
    let lower = ap (λ (xs : Octets). length xs) ((bytes_eq-Decides (str_to_ascii_lowercase (name_of f)) (str_to_ascii_lowercase name)).0 is)
    in
    omega (arith, lower, lower_size (name_of f), lower_size name)

-- ---- the octets of some fields

-- a field that is found, name and all
abbrev sized : Option Octets → ℕ
sized None = 0
sized (Some f) = length f

abbrev cost : List Octets → Octets → ℕ
cost fs name = sized (find (is_named name) fs)

abbrev costs : List Octets → List Octets → ℕ
costs fs names = sum_by (cost fs) names

-- no field has two of these names
abbrev Apart : List Octets → Type 0
Apart [] = Unit {0}
Apart (n ∷ ns) = (list_any (λ m. bytes_eq (str_to_ascii_lowercase n) (str_to_ascii_lowercase m)) ns ≡ false) × Apart ns

named_once : (f n : Octets) (ns : List Octets) → is_named n f ≡ true
    → list_any (λ m. bytes_eq (str_to_ascii_lowercase n) (str_to_ascii_lowercase m)) ns ≡ false → list_any (λ m. is_named m f) ns ≡ false
named_once f n ns is apart =
    let lower : str_to_ascii_lowercase (name_of f) ≡ str_to_ascii_lowercase n =
    (bytes_eq-Decides (str_to_ascii_lowercase (name_of f)) (str_to_ascii_lowercase n)).0 is in
    ap (λ (x : Octets). list_any (λ m. bytes_eq x (str_to_ascii_lowercase m)) ns) lower ∙ apart

costs_step : (f : Octets) (fs ns : List Octets) → Apart ns
    → costs (f ∷ fs) ns ≤ cond (list_any (λ m. is_named m f) ns) (length f) 0 + costs fs ns
costs_step f fs [] apart = omega arith
costs_step f fs (n ∷ ns) apart =
    let step = by_named (is_named n f) refl (costs_step f fs ns apart.1) in
    omega (arith, sum_by-cons (cost (f ∷ fs)) n ns, sum_by-cons (cost fs) n ns, step)
  where
    by_named : (b : Bool) → is_named n f ≡ b → costs (f ∷ fs) ns ≤ cond (list_any (λ m. is_named m f) ns) (length f) 0 + costs fs ns
        → sized (cond b (Some f) (find (is_named n) fs)) + costs (f ∷ fs) ns ≤ cond (b || list_any (λ m. is_named m f) ns) (length f) 0 +
        (cost fs n + costs fs ns)
    by_named true is rest =
        let none : cond (list_any (λ m. is_named m f) ns) (length f) 0 ≡ 0 =
        ap (λ (b : Bool). cond b (length f) 0) (named_once f n ns is apart.0) in
        omega (arith, rest, none)
    by_named false is rest = omega (arith, rest)

cond_most : (b : Bool) (n : ℕ) → cond b n 0 ≤ n
cond_most true n = omega arith
cond_most false n = omega arith

costs_none : (ns : List Octets) → costs [] ns ≡ 0
costs_none [] = refl
costs_none (n ∷ ns) = omega (arith, sum_by-cons (cost []) n ns, costs_none ns)

costs_total : (ns : List Octets) → Apart ns → (fs : List Octets) → costs fs ns ≤ length (concat fs)
costs_total ns apart [] = omega (arith, costs_none ns)
costs_total ns apart (f ∷ fs) =
    omega (
      arith,
      costs_step f fs ns apart,
      cond_most (list_any (λ m. is_named m f) ns) (length f),
      costs_total ns apart fs,
      length-append f (concat fs),
    )

-- ---- contents

found_named : (name : Octets) (fs : List Octets) (f : Octets) → find (is_named name) fs ≡ Some f → is_named name f ≡ true
found_named name [] f is = absurd (cc)
found_named name (g ∷ fs) f is = by_test (is_named name g) refl is (found_named name fs f) where
  by_test : (b : Bool) → is_named name g ≡ b → cond b (Some g) (find (is_named name) fs) ≡ Some f
      → (find (is_named name) fs ≡ Some f → is_named name f ≡ true) → is_named name f ≡ true
  by_test true here same later = let one : g ≡ f = cc in ap (is_named name) (sym one) ∙ here
  by_test false here same later = later same

-- the content of a field that is there, and its name
content_there : (name text : Octets) → (field_count name text == 0) ≡ false
    → length (content name text) + length name ≤ cost (fields text) name
content_there name text some = by_found (find (is_named name) (fields text)) refl where
  by_found : (o : Option Octets) → find (is_named name) (fields text) ≡ o
      → length (unwrap_or (option_map content_of o) []) + length name ≤ sized o
  by_found None is = absurd (true≢false (sym (field_counted name text is) ∙ some))
  by_found (Some f) is = omega (arith, content_less f, named_size name f (found_named name (fields text) f is))

-- the content of a field that may be there
content_most : (name text : Octets) → length (content name text) ≤ cost (fields text) name
content_most name text = by_found (find (is_named name) (fields text)) where
  by_found : (o : Option Octets) → length (unwrap_or (option_map content_of o) []) ≤ sized o
  by_found None = omega arith
  by_found (Some f) = omega (arith, content_less f)

abbrev shown_fields : List Octets
shown_fields = codes "Subject" ∷ codes "From" ∷ codes "Date" ∷ codes "Message-ID" ∷ codes "References" ∷ codes "Newsgroups" ∷ []

shown_apart : Apart shown_fields
shown_apart = (refl, (refl, (refl, (refl, (refl, (refl, tt))))))

shown_cost : (fs : List Octets)
    → cost fs (codes "Subject") + (cost fs (codes "From") +
    (cost fs (codes "Date") + (cost fs (codes "Message-ID") + (cost fs (codes "References") + cost fs (codes "Newsgroups")))))
    ≤ length (concat fs)
shown_cost fs =
    omega (
      arith,
      costs_total shown_fields shown_apart fs,
      sum_by-cons (cost fs) (codes "Subject")
          (codes "From" ∷ codes "Date" ∷ codes "Message-ID" ∷ codes "References" ∷ codes "Newsgroups" ∷ []),
      sum_by-cons (cost fs) (codes "From") (codes "Date" ∷ codes "Message-ID" ∷ codes "References" ∷ codes "Newsgroups" ∷ []),
      sum_by-cons (cost fs) (codes "Date") (codes "Message-ID" ∷ codes "References" ∷ codes "Newsgroups" ∷ []),
      sum_by-cons (cost fs) (codes "Message-ID") (codes "References" ∷ codes "Newsgroups" ∷ []),
      sum_by-cons (cost fs) (codes "References") (codes "Newsgroups" ∷ []),
      sum_by-cons (cost fs) (codes "Newsgroups") [],
    )

record HasShown (text : Octets) : Type 0 where
  subject : (field_count (codes "Subject") text == 0) ≡ false
  from : (field_count (codes "From") text == 0) ≡ false
  date : (field_count (codes "Date") text == 0) ≡ false
  id : (field_count (codes "Message-ID") text == 0) ≡ false
  groups : (field_count (codes "Newsgroups") text == 0) ≡ false

has_shown : (text : Octets) → cause Carried text ≡ None → HasShown text
has_shown text is =
    let none = (or_parts (list_any (λ name. field_count name text == 0) (needed_fields Carried))
    (list_any (is_blank_field text) (written_fields ++ added_fields)) (no_cause Carried text (carried_cause text is)).there).0 in
    let absent : Octets → Bool = λ name. field_count name text == 0 in
    let one = or_parts (absent (codes "From"))
    (list_any absent (codes "Newsgroups" ∷ codes "Subject" ∷ codes "Date" ∷ codes "Message-ID" ∷ codes "Path" ∷ [])) none in
    let two = or_parts (absent (codes "Newsgroups"))
    (list_any absent (codes "Subject" ∷ codes "Date" ∷ codes "Message-ID" ∷ codes "Path" ∷ [])) one.1 in
    let three = or_parts (absent (codes "Subject")) (list_any absent (codes "Date" ∷ codes "Message-ID" ∷ codes "Path" ∷ [])) two.1 in
    let four = or_parts (absent (codes "Date")) (list_any absent (codes "Message-ID" ∷ codes "Path" ∷ [])) three.1 in
    let five = or_parts (absent (codes "Message-ID")) (list_any absent (codes "Path" ∷ [])) four.1 in
    record { subject = three.0; from = one.0; date = four.0; id = five.0; groups = two.0 }

shown_size : (text : Octets) → cause Carried text ≡ None
    → length (content (codes "Subject") text) +
    (length (content (codes "From") text) +
    (length (content (codes "Date") text) + (length (content (codes "Message-ID") text) + length (content (codes "References") text))))
    + 35 ≤ 8192
shown_size text is =
    let has = has_shown text is in
    let small = leb-true (length (header text)) 8192
    (and_parts (nat_le (length (header text)) 8192) (nat_le (length text) 262144) (carried_short text is)).0 in
    omega (
      arith,
      small,
      fields_size (header_lines text),
      shown_cost (fields text),
      content_there (codes "Subject") text has.subject,
      content_there (codes "From") text has.from,
      content_there (codes "Date") text has.date,
      content_there (codes "Message-ID") text has.id,
      content_most (codes "References") text,
      content_there (codes "Newsgroups") text has.groups,
    )

-- ---- the line

joined_length : (n s f d m r b l : Octets)
    → length (n ++ codes "\t" ++ s ++ codes "\t" ++ f ++ codes "\t" ++ d ++ codes "\t" ++ m ++ codes "\t" ++ r ++ codes "\t" ++ b
    ++ codes "\t" ++ l) ≡ length n + length s + length f + length d + length m + length r + length b + length l + 7
joined_length n s f d m r b l = omega (arith, length-append {A = ℕ})

body_count : (text : Octets) → length (body_lines text) ≤ length text
body_count text = omega (arith, length-drop (length (header_lines text) + 1) (lines text), lines_count 0 text)

-- a number of at most ten digits, seven tabs, the fields, and two numbers of at most six digits
pub line_short : (number : ℕ) (text : Octets) → number < 10 ^ 10 → cause Carried text ≡ None → length (overview_line number text) ≤ 8191
line_short number text small is =
    let octets = carried_size text is in
    let parts = joined_length (decimal number) (overview_field (codes "Subject") text) (overview_field (codes "From") text)
    (overview_field (codes "Date") text) (overview_field (codes "Message-ID") text) (overview_field (codes "References") text)
    (decimal (length text)) (decimal (length (body_lines text))) in
    omega (
      arith,
      parts,
      shown_size text is,
      shown (codes "Subject"),
      shown (codes "From"),
      shown (codes "Date"),
      shown (codes "Message-ID"),
      shown (codes "References"),
      length-decimal-le 10 number (omega arith) small (omega arith),
      length-decimal-le 6 (length text) (omega arith) (omega arith) (omega arith),
      length-decimal-le 6 (length (body_lines text)) (omega arith) (omega (arith, body_count text)) (omega (arith, body_count text)),
    )
  where
    shown : (name : Octets) → length (overview_field name text) ≡ length (content name text)
    shown name = length-map (content name text) _
