-- What is put before a posted text leaves its lines, its fields and its groups as they are.
use Rattle.std.specs.Prelude.{◌≡◌, ℕ, ◌+◌, ◌<◌, ◌≤◌, ◌^◌, Bool, true, false, not, ◌||◌, ◌==◌, if◌then◌else◌, List, [], ◌∷◌, ◌++◌}
use Rattle.std.specs.Prelude.{length, take, drop, find, codes, bytes_eq, count_by, nat_lt, Option, None, option_map, unwrap_or}
use Rattle.std.specs.Prelude.{IsTrue}
use Rattle.std.specs.List.{concat, list_all, list_any, take_while}
use Rattle.std.proofs.Common.{sym, ◌∙◌, ap, refl, subst, arith}
use Rattle.std.proofs.lemmas.Bool.{lt-ltb}
use Rattle.std.proofs.lemmas.List.{append_assoc, append-nil, length-append}
use Rattle.std.proofs.lemmas.List.Folds.{concat-append, list_any-append}
use Rattle.std.proofs.Math.Seq.{drop-append-add, take-append-add}
use Rattle.model.specs.Stream.{Octets, crlf, line, lines}
use Rattle.model.specs.Names.{is_host}
use Rattle.model.specs.Calendar.{date_header}
use Rattle.model.specs.Article.{Posted, body, body_lines, cause, cause_but_long, content, content_of, fields, has_empty_line, header}
use Rattle.model.specs.Article.{continues, fields_of_lines, header_lines, injected, is_named, made_id}
use Rattle.model.proofs.Fronts.{first_none}
use Rattle.model.proofs.Ids.{HasNoCause, no_cause}
use Rattle.model.proofs.Stored.{Begins, begins_more, date_plain, grouped, header_front, is_no_lf, lines_front, made_plain, no_lf}
use Rattle.model.proofs.Stored.{passed, path_plain, perhaps, stored}
use Rattle.model.proofs.LineLaws.{lines-empty}
use Rattle.text_fields.specs.Header.{IsHeader}
use Rattle.text_article.specs.Stored.{added_to, field_line, front, path_of}

-- the fields that make up `front`
abbrev front_fields : Octets → ℕ → ℕ → List Octets → List Octets
front_fields host serial moment fields =
    perhaps (count_by (is_named (codes "Path")) fields == 0) (field_line (codes "Path") (path_of host))
    ++ perhaps (count_by (is_named (codes "Date")) fields == 0) (field_line (codes "Date") (date_header moment))
    ++ perhaps (count_by (is_named (codes "Message-ID")) fields == 0) (field_line (codes "Message-ID") (made_id host serial))

no_fields : fields [] ≡ []
unfolding fields_of_lines
no_fields = ap (λ ls. fields_of_lines (take_while (λ l. not (bytes_eq l crlf)) ls)) lines-empty

begins_none : Begins [] [] []
begins_none = record {
  starts = ap (λ ls. continues (take_while (λ l. not (bytes_eq l crlf)) ls)) lines-empty;
  fields_are = refl;
}

-- lines before a text
pub record Behind (text : Octets) (more : List Octets) (whole : Octets) : Type 0 where
  pub lines_are : lines whole ≡ more ++ lines text
  pub header_are : header_lines whole ≡ more ++ header_lines text

one_more : (b : Bool) (front text whole : Octets) (more : List Octets) → list_all is_no_lf front ≡ true
    → bytes_eq (line front) crlf ≡ false → Behind text more whole
    → Behind text (perhaps b (line front) ++ more) ((if b then line front else []) ++ whole)
one_more true front text whole more plain some old = record {
  lines_are = lines_front front whole plain ∙ ap (λ ls. line front ∷ ls) old.lines_are;
  header_are = header_front front whole plain some ∙ ap (λ ls. line front ∷ ls) old.header_are;
}
one_more false front text whole more plain some old = old

-- ---- the header of a text with lines before it

module _ (text whole front : Octets) (more : List Octets) (behind : Behind text more whole) (is : whole ≡ front ++ text)
    (front_is : concat more ≡ front) (n : ℕ) (at : IsHeader text n) (room : n + 2 ≤ length text) where
  abbrev end : ℕ
  end = length front + n

  size : length whole ≡ length front + length text
  size = ap length is ∙ length-append front text

  header_is : header whole ≡ take end whole
  header_is =
      ap concat behind.header_are ∙ concat-append more (header_lines text) ∙ (λ i. front_is i ++ at.header i)
      ∙ sym (take-append-add front text n) ∙ ap (take end) (sym is)

  body_lines_are : body_lines whole ≡ body_lines text
  body_lines_are =
      let count : length (header_lines whole) + 1 ≡ length more + (length (header_lines text) + 1) =
      omega (arith, ap length behind.header_are, length-append more (header_lines text)) in
      (λ i. drop (count i) (behind.lines_are i)) ∙ drop-append-add more (lines text) (length (header_lines text) + 1)

  body_is : body whole ≡ drop (end + 2) whole
  body_is =
      let same : end + 2 ≡ length front + (n + 2) = omega arith in
      ap concat body_lines_are ∙ at.body ∙ sym (drop-append-add front text (n + 2)) ∙ (λ i. drop (sym same i) (sym is i))

  text_ends : has_empty_line text ≡ true
  text_ends = at.ends ∙ lt-ltb n (length text) (omega (arith, room))

  or_true : (a : Bool) → (a || true) ≡ true
  or_true true = refl
  or_true false = refl

  ends : has_empty_line whole ≡ nat_lt end (length whole)
  ends =
      let p = λ (l : Octets). bytes_eq l crlf in
      ap (list_any p) behind.lines_are ∙ list_any-append p more (lines text) ∙ ap (λ b. list_any p more || b) text_ends
      ∙ or_true (list_any p more) ∙ sym (lt-ltb end (length whole) (omega (arith, room, size)))

  pub header_at : IsHeader whole end
  header_at = record {
    within = omega (arith, room, size);
    header = header_is;
    body = body_is;
    ends = ends;
    room = λ below. omega (arith, room, size);
  }

-- ---- the stored text

but_none : (host text : Octets) (serial : ℕ) → cause (Posted host serial) text ≡ None → cause_but_long (Posted host serial) text ≡ None
unfolding cause
but_none host text serial is = first_none (cause_but_long (Posted host serial) text) _ is

concat_one : (b : Bool) (field : Octets) → concat (perhaps b field) ≡ (if b then field else [])
concat_one true field = append-nil field
concat_one false field = refl

-- the added fields are what is put before the text
concat_front : (host : Octets) (serial moment : ℕ) (all : List Octets)
    → concat (front_fields host serial moment all) ≡ front host serial moment all
concat_front host serial moment all =
    concat-append (path ++ date) id ∙ (λ i. concat-append path date i ++ concat_one lacks_id id_line i)
    ∙ (λ i. concat_one lacks_path path_line i ++ concat_one lacks_date date_line i
    ++ added_to all (codes "Message-ID") (made_id host serial))
  where
    path_line : Octets
    path_line = field_line (codes "Path") (path_of host)

    date_line : Octets
    date_line = field_line (codes "Date") (date_header moment)

    id_line : Octets
    id_line = field_line (codes "Message-ID") (made_id host serial)

    lacks_path : Bool
    lacks_path = count_by (is_named (codes "Path")) all == 0

    lacks_date : Bool
    lacks_date = count_by (is_named (codes "Date")) all == 0

    lacks_id : Bool
    lacks_id = count_by (is_named (codes "Message-ID")) all == 0

    path : List Octets
    path = perhaps lacks_path path_line

    date : List Octets
    date = perhaps lacks_date date_line

    id : List Octets
    id = perhaps lacks_id id_line

module _ (host text : Octets) (serial moment : ℕ) (good : IsTrue (is_host host)) (small : serial < 2 ^ 64)
    (none : cause (Posted host serial) text ≡ None) where
  abbrev whole : Octets
  whole = injected host serial moment text

  sound : HasNoCause (Posted host serial) text
  sound = no_cause (Posted host serial) text (but_none host text serial none)

  abbrev path_body : Octets
  path_body = codes "Path" ++ codes ": " ++ (host ++ codes "!not-for-mail")

  abbrev date_body : Octets
  date_body = codes "Date" ++ codes ": " ++ date_header moment

  abbrev id_body : Octets
  id_body = codes "Message-ID" ++ codes ": " ++ made_id host serial

  abbrev lacks : Octets → Bool
  lacks name = count_by (is_named name) (fields text) == 0

  abbrev path_field : List Octets
  path_field = perhaps (lacks (codes "Path")) (line path_body)

  abbrev date_field : List Octets
  date_field = perhaps (lacks (codes "Date")) (line date_body)

  abbrev id_field : List Octets
  id_field = perhaps (lacks (codes "Message-ID")) (line id_body)

  abbrev all : List Octets
  all = path_field ++ (date_field ++ (id_field ++ []))

  all_are : front_fields host serial moment (fields text) ≡ all
  all_are = append_assoc path_field date_field id_field ∙ ap (λ fs. path_field ++ (date_field ++ fs)) (sym (append-nil id_field))

  behind : Behind text all whole
  behind = subst (Behind text all) (sym (grouped host text serial moment good small sound))
      (one_more (lacks (codes "Path")) path_body text _ _ (no_lf path_body (path_plain host good)) refl
      (one_more (lacks (codes "Date")) date_body text _ _ (no_lf date_body (date_plain moment)) refl
      (one_more (lacks (codes "Message-ID")) id_body text text [] (no_lf id_body (made_plain host serial good small)) refl
      (record { lines_are = refl; header_are = refl }))))

  pub injected_header : (n : ℕ) → IsHeader text n → n + 2 ≤ length text
      → IsHeader whole (length (front host serial moment (fields text)) + n)
  injected_header n at room =
      header_at text whole (front host serial moment (fields text)) all behind refl
      (ap concat (sym all_are) ∙ concat_front host serial moment (fields text)) n at room

  fields_are : fields whole ≡ all ++ fields text
  fields_are = (stored host text serial moment good small sound).fields_are

  begun : Begins [] all ((if lacks (codes "Path") then line path_body else []) ++ ((if lacks (codes "Date") then line date_body else [])
      ++ ((if lacks (codes "Message-ID") then line id_body else []) ++ [])))
  begun =
      begins_more (lacks (codes "Path")) path_body [] _ _ (no_lf path_body (path_plain host good)) refl refl
      (begins_more (lacks (codes "Date")) date_body [] _ _ (no_lf date_body (date_plain moment)) refl refl
      (begins_more (lacks (codes "Message-ID")) id_body [] [] [] (no_lf id_body (made_plain host serial good small)) refl refl
      begins_none))

  front_whole : (if lacks (codes "Path") then line path_body else []) ++ ((if lacks (codes "Date") then line date_body else [])
      ++ ((if lacks (codes "Message-ID") then line id_body else []) ++ [])) ≡ front host serial moment (fields text)
  front_whole =
      let path = if lacks (codes "Path") then line path_body else [] in
      let date = if lacks (codes "Date") then line date_body else [] in
      let id = if lacks (codes "Message-ID") then line id_body else [] in
      ap (λ l. path ++ (date ++ l)) (append-nil id) ∙ sym (append_assoc path date id)

  pub injected_fields : fields (front host serial moment (fields text)) ++ fields text ≡ fields whole
  injected_fields =
      ap (λ fs. fs ++ fields text)
      (ap fields (sym front_whole) ∙ begun.fields_are ∙ ap (λ fs. all ++ fs) no_fields ∙ append-nil all)
      ∙ sym fields_are

  pub injected_newsgroups : content (codes "Newsgroups") whole ≡ content (codes "Newsgroups") text
  injected_newsgroups =
      let its = is_named (codes "Newsgroups") in
      ap (λ (o : Option Octets). unwrap_or (option_map content_of o) [])
      (ap (find its) (fields_are ∙ append_assoc path_field (date_field ++ (id_field ++ [])) (fields text))
      ∙ passed (codes "Newsgroups") (line path_body) (lacks (codes "Path")) _ refl
      ∙ ap (find its) (append_assoc date_field (id_field ++ []) (fields text))
      ∙ passed (codes "Newsgroups") (line date_body) (lacks (codes "Date")) _ refl
      ∙ ap (λ fs. find its (fs ++ fields text)) (append-nil id_field)
      ∙ passed (codes "Newsgroups") (line id_body) (lacks (codes "Message-ID")) (fields text) refl)
