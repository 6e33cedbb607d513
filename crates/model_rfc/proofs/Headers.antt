-- The headers of an article.
use Rattle.std.proofs.Common.{◌≡◌, suc, ◌+◌, ◌-◌, ◌<◌, ◌≤◌, List, [], ◌∷◌, ◌++◌, map, take, drop, refl, sym, ◌∙◌, ap, arith, inl, inr, Bool}
use Rattle.std.proofs.Common.{true, false, cond, ◌&&◌, ◌||◌}
use Rattle.std.proofs.Common.{append-nil}
use Rattle.std.specs.Prelude.{length, bytes_eq, codes, nat_le, None, ◌==◌}
use Rattle.std.specs.List.{list_all, list_any}
use Rattle.std.proofs.lemmas.Bool.{false≢true, and_parts, and_from, or_cases, or_left, or_right, leb-true, le-leb}
use Rattle.std.proofs.lemmas.List.{length-drop, length-take-le, take-append-le}
use Rattle.model.specs.Stream.{Octets, crlf, line}
use Rattle.model.specs.Names.{begins, is_blank, is_run_of, is_visible}
use Rattle.model.specs.Article.{Carried, begins_field, cause, has_fields_alone, name_of}
use Rattle.model.proofs.HoldsOne.{carried_cause}
use Rattle.model.proofs.Ids.{no_cause}
use Rattle.model_rfc.specs.Commands.{begins_blank}
use Rattle.model_rfc.specs.Grammar.{is_printable}
use Rattle.model_rfc.specs.Contents.{are_headers, begins_header, is_article_text, size_before}
use Rattle.model_rfc.proofs.Overviews.{drop_within, is_named_octet, prefix_short, prefix_within}
use Rattle.model_rfc.proofs.Texts.{text_is}

-- a name that ends within a line is that of the line
same_name : (l more : Octets) → size_before 58 (l ++ more) < length l → size_before 58 l ≡ size_before 58 (l ++ more)
same_name [] more within = absurd (omega arith)
same_name (x ∷ l) more within = by_test (is_named_octet x) within (same_name l more) where
  by_test : (b : Bool) → cond b (1 + size_before 58 (l ++ more)) 0 < suc (length l)
      → (size_before 58 (l ++ more) < length l → size_before 58 l ≡ size_before 58 (l ++ more))
      → cond b (1 + size_before 58 l) 0 ≡ cond b (1 + size_before 58 (l ++ more)) 0
  by_test true short again = ap (λ n. 1 + n) (again (omega arith))
  by_test false short again = refl

-- a line that begins a field begins a header
header_from : (l : Octets) → begins_field (line l) ≡ true → begins_header l ≡ true
header_from l is =
    let both = and_parts (is_run_of is_visible (name_of (line l))) _ is in
    let run = and_parts (nat_le 1 (length (name_of (line l)))) (list_all is_visible (name_of (line l))) both.0 in
    let size : length (name_of (line l)) ≡ size_before 58 (line l) =
    length-take-le (size_before 58 (line l)) (line l) (prefix_short (line l)) in
    let found : bytes_eq (take 2 (drop (size_before 58 (line l)) (line l))) (codes ": ") ≡ true =
    sym (ap (λ n. bytes_eq (take 2 (drop n (line l))) (codes ": ")) size) ∙ both.1 in
    let shape : size_before 58 (l ++ (crlf ++ [])) ≡ size_before 58 (line l) = ap (λ s. size_before 58 (l ++ s)) (append-nil crlf) in
    let within : size_before 58 (line l) + 2 ≤ length l = omega (arith, shape, prefix_within l [] found) in
    let same : size_before 58 l ≡ size_before 58 (line l) = same_name l crlf (omega arith) in
    let left : length (drop (size_before 58 l) l) ≡ length l - size_before 58 l = length-drop (size_before 58 l) l in
    let some : 1 ≤ length (name_of (line l)) = leb-true 1 (length (name_of (line l))) run.0 in
    and_from (nat_le 1 (size_before 58 l) && list_all is_printable (take (size_before 58 l) l)) _
    (and_from (nat_le 1 (size_before 58 l)) _ (le-leb 1 (size_before 58 l) (omega arith))
    (ap (list_all is_printable) (sym (take-append-le (size_before 58 l) l crlf (omega arith)) ∙ ap (λ n. take n (line l)) same) ∙ run.1))
    (ap (λ s. bytes_eq s (codes ": ")) (sym (take-append-le 2 (drop (size_before 58 l) l) crlf (omega arith)))
    ∙ ap (λ s. bytes_eq (take 2 s) (codes ": ")) (sym (drop_within (size_before 58 l) l crlf (omega arith))
    ∙ ap (λ n. drop n (line l)) same)
    ∙ found)

blank_from : (l : Octets) → begins is_blank (line l) ≡ true → begins_blank l ≡ true
blank_from [] is = absurd (false≢true is)
blank_from (x ∷ l) is = is

later_from : (ls : List Octets) → list_all (λ w. begins is_blank w || begins_field w) (map line ls) ≡ true
    → list_all (λ l. begins_blank l || begins_header l) ls ≡ true
later_from [] all = refl
later_from (l ∷ ls) all =
    let both = and_parts (begins is_blank (line l) || begins_field (line l)) _ all in
    and_from (begins_blank l || begins_header l) _
    (elim (or_cases (begins is_blank (line l)) (begins_field (line l)) both.0) [
      | inl blank ↦ or_left (begins_blank l) (begins_header l) (blank_from l blank)
      | inr named ↦ or_right (begins_blank l) (begins_header l) (header_from l named)
    ])
    (later_from ls both.1)

headers_from : (ls : List Octets) → 1 ≤ length ls → has_fields_alone (map line ls) ≡ true → are_headers ls ≡ true
headers_from [] some all = absurd (omega arith)
headers_from (l ∷ ls) some all =
    let both = and_parts (begins_field (line l)) _ all in
    and_from (begins_header l) _ (header_from l both.0) (later_from ls both.1)

pub headers_are : (text : Octets) (carried : cause Carried text ≡ None) → are_headers (text_is text carried).split.headers ≡ true
headers_are text carried =
    let t = text_is text carried in
    headers_from t.split.headers t.some (sym (ap has_fields_alone t.header_is)
    ∙ (no_cause Carried text (carried_cause text carried)).fields_alone)

pub article_is : (text : Octets) (carried : cause Carried text ≡ None) → is_article_text (text_is text carried).texts ≡ true
article_is text carried =
    let split = (text_is text carried).split in
    and_from (list_any (λ l. length l == 0) (text_is text carried).texts) _ split.empty
    (ap are_headers split.before ∙ headers_are text carried)
