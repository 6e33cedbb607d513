-- What is put before a posted text, and the number of its octets.
use Rattle.std.specs.Prelude.{◌≡◌, ℕ, ◌+◌, Bool, true, false, ◌==◌, if◌then◌else◌, List, [], ◌++◌, codes, count_by, decimal, length}
use Rattle.std.proofs.Common.{sym, ◌∙◌, ap, refl, arith}
use Rattle.std.proofs.lemmas.List.{append-nil, append_assoc, length-append}
use Rattle.model.specs.Stream.{Octets, crlf}
use Rattle.model.specs.Calendar.{date_header}
use Rattle.model.specs.Article.{is_named, made_id}
use Rattle.model.proofs.CalendarLaws.{date_header-size}
use Rattle.text_article.specs.Stored.{added_to, field_line, front, missing_length, path_of}

line-size : (name content : Octets) → length (field_line name content) ≡ length name + length content + 4
line-size name content =
    omega (
      arith,
      length-append (name ++ codes ": " ++ content) crlf,
      length-append (name ++ codes ": ") content,
      length-append name (codes ": "),
    )

added-size : (all : List Octets) (name content : Octets) → length (added_to all name content) ≡ missing_length all name (length content)
added-size all name content = by_test (count_by (is_named name) all == 0) where
  by_test : (b : Bool) → length (if b then field_line name content else []) ≡ (if b then length name + length content + 4 else 0)
  by_test true = line-size name content
  by_test false = refl

id-size : (host : Octets) (serial : ℕ) → length (made_id host serial) ≡ length host + (3 + length (decimal serial))
id-size host serial =
    omega (
      arith,
      length-append (codes "<" ++ decimal serial ++ codes "@" ++ host) (codes ">"),
      length-append (codes "<" ++ decimal serial ++ codes "@") host,
      length-append (codes "<" ++ decimal serial) (codes "@"),
      length-append (codes "<") (decimal serial),
    )

pub front-size : (host : Octets) (serial : ℕ) (all : List Octets) (path date id : ℕ)
    → path ≡ missing_length all (codes "Path") (length host + 13)
    → date ≡ missing_length all (codes "Date") 31
    → id ≡ missing_length all (codes "Message-ID") (length host + (3 + length (decimal serial)))
    → path + date + id ≡ length (front host serial 0 all)
front-size host serial all path date id one two three =
    let path_line = added_to all (codes "Path") (path_of host) in
    let date_line = added_to all (codes "Date") (date_header 0) in
    let id_line = added_to all (codes "Message-ID") (made_id host serial) in
    let first : path ≡ length path_line = one ∙ ap (missing_length all (codes "Path")) (sym (length-append host (codes "!not-for-mail")))
    ∙ sym (added-size all (codes "Path") (path_of host)) in
    let second : date ≡ length date_line = two ∙ ap (missing_length all (codes "Date")) (sym (date_header-size 0 (omega arith)))
    ∙ sym (added-size all (codes "Date") (date_header 0)) in
    let third : id ≡ length id_line = three ∙ ap (missing_length all (codes "Message-ID")) (sym (id-size host serial))
    ∙ sym (added-size all (codes "Message-ID") (made_id host serial)) in
    (λ i. first i + second i + third i)
    ∙ sym (length-append (path_line ++ date_line) id_line ∙ ap (λ n. n + length id_line) (length-append path_line date_line))

-- ---- one octet sequence after the other

pub regroup-five : (a b c d e f : Octets) → a ++ b ++ c ++ d ++ e ++ f ≡ a ++ (b ++ c ++ d ++ e ++ f)
regroup-five a b c d e f = simp append_assoc

pub regroup-line : (a b c d e : Octets) → a ++ b ++ c ++ d ++ e ≡ a ++ (b ++ (c ++ d) ++ e)
regroup-line a b c d e = simp append_assoc

pub regroup-field : (a b c d : Octets) → a ++ b ++ c ++ d ≡ a ++ (b ++ c ++ d)
regroup-field a b c d = simp append_assoc

pub added-one : (all : List Octets) (name content old new : Octets) → (count_by (is_named name) all == 0) ≡ true
    → new ≡ old ++ field_line name content → new ≡ old ++ added_to all name content
added-one all name content old new lacks is = is ∙ ap (λ b. old ++ (if b then field_line name content else [])) (sym lacks)

pub added-none : (all : List Octets) (name content old : Octets) → (count_by (is_named name) all == 0) ≡ false
    → old ≡ old ++ added_to all name content
added-none all name content old has =
    sym (append-nil old) ∙ ap (λ b. old ++ (if b then field_line name content else [])) (sym has)
