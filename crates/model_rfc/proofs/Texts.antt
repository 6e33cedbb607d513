-- The texts of articles as blocks.
use Rattle.std.proofs.Common.{◌≡◌, ◌+◌, ◌≤◌, List, [], ◌∷◌, ◌++◌, map, drop, sym, ◌∙◌, ap, arith, true, false, not}
use Rattle.std.proofs.Common.{append_assoc}
use Rattle.std.specs.Prelude.{length, flat_map, bytes_eq, codes, ◌==◌, count_by}
use Rattle.std.specs.List.{concat, list_all, list_any, take_while}
use Rattle.std.specs.Prelude.{None, nat_lt}
use Rattle.model.specs.Article.{has_lines_alone, is_whole_line}
use Rattle.std.proofs.lemmas.Bool.{true≢false, and_parts, or_parts}
use Rattle.std.proofs.lemmas.List.{drop_at, length-append, map-append}
use Rattle.model.specs.Stream.{Octets, crlf, dot_line, line, lines, stuffed, stuffed_line}
use Rattle.model.specs.Article.{Carried, added_fields, body, body_lines, cause, field_count, fields_of_lines, header, header_lines}
use Rattle.model.specs.Article.{is_blank_field, is_named, needed_fields, written_fields}
use Rattle.model.proofs.HoldsOne.{carried_cause}
use Rattle.model.proofs.Ids.{no_cause}
use Rattle.model_rfc.specs.Grammar.{is_line_octet}
use Rattle.model_rfc.specs.Responses.{sent}
use Rattle.model_rfc.proofs.Blocks.{IsSplit, lines_of, sent_all, split_at, whole_lines}

sent_text : (text : Octets) (ls : List Octets) → lines text ≡ map line ls → stuffed text ≡ sent ls
sent_text text ls is = ap (λ ws. flat_map stuffed_line ws ++ dot_line) is ∙ ap (λ s. s ++ dot_line) (sent_all ls)

sent_joined : (text : Octets) (ls : List Octets) → text ≡ concat (map line ls) → list_all (list_all is_line_octet) ls ≡ true
    → stuffed text ≡ sent ls
sent_joined text ls is clean = sent_text text ls (ap lines is ∙ lines_of ls clean)

no_field : (text : Octets) → header_lines text ≡ [] → (field_count (codes "From") text == 0) ≡ true
unfolding fields_of_lines
no_field text none = ap (λ (hs : List Octets). count_by (is_named (codes "From")) (fields_of_lines hs) == 0) none

body_from : (hs bs : List Octets) → drop (length (map line hs) + 1) (map line (hs ++ [] ∷ bs)) ≡ map line bs
body_from hs bs =
    ap (drop (length (map line hs) + 1)) (map-append line hs ([] ∷ bs) ∙ sym (append_assoc (map line hs) (crlf ∷ []) (map line bs)))
    ∙ drop_at (map line hs ++ crlf ∷ []) (map line bs) (length (map line hs) + 1) (length-append (map line hs) (crlf ∷ []))

-- the blocks of an article
pub record IsText (text : Octets) : Type 0 where
  pub texts : List Octets
  pub lines_are : lines text ≡ map line texts
  pub clean : list_all (list_all is_line_octet) texts ≡ true
  pub split : IsSplit texts
  pub header_is : header_lines text ≡ map line split.headers
  pub body_is : body_lines text ≡ map line split.body
  pub some : 1 ≤ length split.headers
  pub whole : stuffed text ≡ sent texts
  pub head : stuffed (header text) ≡ sent split.headers
  pub rest : stuffed (body text) ≡ sent split.body

pub text_is : (text : Octets) → cause Carried text ≡ None → IsText text
text_is text carried =
    let sound = no_cause Carried text (carried_cause text carried) in
    let whole = whole_lines (lines text) (alone sound.lines_alone) in
    let split = split_at whole.texts whole.clean
    (sym (ap (list_any (λ w. bytes_eq w crlf)) whole.lines_are) ∙ sound.empty_line) in
    let header_is : header_lines text ≡ map line split.headers =
    ap (take_while (λ w. not (bytes_eq w crlf))) whole.lines_are ∙ split.front in
    let body_is : body_lines text ≡ map line split.body =
    ap (λ (hs : List Octets). drop (length hs + 1) (lines text)) header_is
    ∙ ap (drop (length (map line split.headers) + 1)) (whole.lines_are ∙ ap (map line) split.all)
    ∙ body_from split.headers split.body in
    record {
      texts = whole.texts;
      lines_are = whole.lines_are;
      clean = whole.clean;
      split = split;
      header_is = header_is;
      body_is = body_is;
      some = some_of split.headers header_is
          (or_parts (list_any (λ name. field_count name text == 0) (needed_fields Carried))
          (list_any (is_blank_field text) (written_fields ++ added_fields)) sound.there).0;
      whole = sent_text text whole.texts whole.lines_are;
      head = sent_joined (header text) split.headers (ap concat header_is) split.clean_headers;
      rest = sent_joined (body text) split.body (ap concat body_is) split.clean_body;
    }
  where
    alone : has_lines_alone text ≡ true → list_all is_whole_line (lines text) ≡ true
    alone is = (and_parts (nat_lt 0 (length text)) (list_all is_whole_line (lines text)) is).1

    some_of : (hs : List Octets) → header_lines text ≡ map line hs
        → list_any (λ name. field_count name text == 0) (needed_fields Carried) ≡ false
        → 1 ≤ length hs
    some_of [] none there = absurd (true≢false (sym (no_field text none) ∙ (or_parts (field_count (codes "From") text == 0) _ there).0))
    some_of (h ∷ hs) is there = omega arith
