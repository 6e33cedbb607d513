-- The forms of responses.
use Rattle.std.proofs.Common.{◌≡◌, ℕ, ◌+◌, ◌<◌, ◌≤◌, ◌/◌, ◌%◌, List, [], ◌∷◌, ◌++◌, refl, sym, ◌∙◌, ap, subst, arith, inl, inr, Bool, true}
use Rattle.std.proofs.Common.{false, ◌||◌}
use Rattle.std.proofs.Common.{append-nil, append_assoc}
use Rattle.std.specs.Prelude.{length, codes, decimal, take, ◌==◌}
use Rattle.std.specs.List.{list_all, join_with_byte}
use Rattle.std.proofs.lemmas.Bool.{true≢false, and_from, cases_lt, eq-eqb, le-leb, or_left, or_right}
use Rattle.std.proofs.lemmas.List.{length-append}
use Rattle.std.proofs.lemmas.List.Folds.{list_all-append}
use Rattle.model.specs.Stream.{Octets, crlf, line}
use Rattle.model.specs.Spool.{Spool}
use Rattle.model.specs.Answer.{awaiting, says, spaced}
use Rattle.model.specs.Replies.{block}
use Rattle.model.specs.declared.session.Answer.{Answer}
use Rattle.model.specs.declared.session.Awaits.{Awaits}
use Rattle.model.specs.declared.session.Session.{Session}
use Rattle.model_rfc.specs.Grammar.{are, is_line_octet, is_message_id, is_number, is_newsgroup_name}
use Rattle.model_rfc.specs.Commands.{Asked, is_multi_line, is_one_of}
use Rattle.model_rfc.specs.Contents.{content_of}
use Rattle.model_rfc.specs.Responses.{arguments_of, IsInitialLine, IsResponse, sent, three_digits}
use Rattle.model_rfc.specs.States.{IsReader, Keeps}
use Rattle.model_rfc.proofs.Blocks.{block_is}
use Rattle.model_rfc.proofs.Words.{id_high, id_short, is_high, name_high, number_high, number_short, words_clean}

-- ---- responses

pub plain : (asked : Asked) (code : ℕ) (first : Octets) → IsInitialLine code first
    → is_one_of code (asked.row.single ++ asked.row.multi) ≡ true → is_multi_line asked.row code ≡ false → IsResponse asked (line first)
plain asked code first initial may single = record {
  code = code;
  first = first;
  rest = [];
  octets_are = sym (append-nil (first ++ crlf));
  may = may;
  initial = initial;
  alone = λ is. refl;
  block = λ multi. absurd (true≢false (sym multi ∙ single));
}

pub blocked : (asked : Asked) (code : ℕ) (first octets : Octets) (lines : List Octets) → IsInitialLine code first
    → is_one_of code (asked.row.single ++ asked.row.multi) ≡ true → is_multi_line asked.row code ≡ true → octets ≡ sent lines
    → list_all (list_all is_line_octet) lines ≡ true → content_of asked.listing code lines ≡ true → IsResponse asked (line first ++ octets)
blocked asked code first octets lines initial may multi is clean has = record {
  code = code;
  first = first;
  rest = octets;
  octets_are = refl;
  may = may;
  initial = initial;
  alone = λ single. absurd (true≢false (sym multi ∙ single));
  block = λ same. record { lines = lines; octets_are = is; clean = clean; has = has };
}

pub listed_block : (asked : Asked) (code : ℕ) (first : Octets) (lines : List Octets) → IsInitialLine code first
    → is_one_of code (asked.row.single ++ asked.row.multi) ≡ true → is_multi_line asked.row code ≡ true
    → list_all (list_all is_line_octet) lines ≡ true → content_of asked.listing code lines ≡ true → IsResponse asked (block first lines)
listed_block asked code first lines initial may multi clean has =
    subst (IsResponse asked) (sym (block_is first lines)) (blocked asked code first (sent lines) lines initial may multi refl clean has)

-- ---- initial lines with arguments

three_high : (code : ℕ) → list_all is_high (three_digits code) ≡ true
three_high code =
    and_from (is_high (48 + code / 100)) _ (le-leb 33 (48 + code / 100) (omega arith))
    (and_from (is_high (48 + code / 10 % 10)) _ (le-leb 33 (48 + code / 10 % 10) (omega arith))
    (and_from (is_high (48 + code % 10)) true (le-leb 33 (48 + code % 10) (omega arith)) refl))

-- nothing, or SP and a text
abbrev pub is_comment : Octets → Bool
is_comment comment = list_all (λ x. x == 32) (take 1 comment)

pub with_arguments : (code : ℕ) (ws : List Octets) (comment : Octets) → 100 ≤ code → code < 600 → are (arguments_of code) ws ≡ true
    → list_all (list_all is_high) ws ≡ true → is_comment comment ≡ true → list_all is_line_octet comment ≡ true
    → length (join_with_byte 32 (three_digits code ∷ ws) ++ comment) ≤ 510
    → IsInitialLine code (join_with_byte 32 (three_digits code ∷ ws) ++ comment)
with_arguments code ws comment low high good visible commented clean short = record {
  range = (low, high);
  arguments = ws;
  comment = comment;
  first_is = refl;
  are_arguments = good;
  commented = commented;
  clean = list_all-append is_line_octet (join_with_byte 32 (three_digits code ∷ ws)) comment
      ∙ and_from (list_all is_line_octet (join_with_byte 32 (three_digits code ∷ ws))) _
      (words_clean (three_digits code ∷ ws) (and_from (list_all is_high (three_digits code)) _ (three_high code) visible)) clean;
  short = short;
}

-- a number and a message-id
pub numbered : (code : ℕ) (n : ℕ) (id : Octets) → 100 ≤ code → code < 600 → arguments_of code ≡ is_number ∷ is_message_id ∷ []
    → is_number (decimal n) ≡ true → is_message_id id ≡ true → IsInitialLine code (spaced (three_digits code ∷ decimal n ∷ id ∷ []))
numbered code n id low high kinds is_n is_id =
    subst (IsInitialLine code) (append-nil (spaced (three_digits code ∷ decimal n ∷ id ∷ [])))
    (with_arguments code (decimal n ∷ id ∷ []) [] low high
    (ap (λ (ts : List (Octets → Bool)). are ts (decimal n ∷ id ∷ [])) kinds
    ∙ and_from (is_number (decimal n)) _ is_n (and_from (is_message_id id) true is_id refl))
    (and_from (list_all is_high (decimal n)) _ (number_high (decimal n) is_n) (and_from (list_all is_high id) true (id_high id is_id) refl))
    refl refl
    (omega (
      arith,
      number_short (decimal n) is_n,
      id_short id is_id,
      length-append (spaced (three_digits code ∷ decimal n ∷ id ∷ [])) [],
      length-append (decimal n) (32 ∷ id),
    )))

-- the numbers of a group
pub counted : (a b c : ℕ) (g comment : Octets) → is_number (decimal a) ≡ true → is_number (decimal b) ≡ true → is_number (decimal c) ≡ true
    → is_newsgroup_name g ≡ true → length g ≤ 40 → is_comment comment ≡ true → list_all is_line_octet comment ≡ true → length comment ≤ 20
    → IsInitialLine 211 (spaced (codes "211" ∷ decimal a ∷ decimal b ∷ decimal c ∷ g ∷ []) ++ comment)
counted a b c g comment is_a is_b is_c is_g short_g commented clean short =
    with_arguments 211 (decimal a ∷ decimal b ∷ decimal c ∷ g ∷ []) comment (omega arith) (omega arith)
    (and_from (is_number (decimal a)) _ is_a (and_from (is_number (decimal b)) _ is_b (and_from (is_number (decimal c)) _ is_c
    (and_from (is_newsgroup_name g) true is_g refl))))
    (and_from (list_all is_high (decimal a)) _ (number_high (decimal a) is_a)
    (and_from (list_all is_high (decimal b)) _ (number_high (decimal b) is_b)
    (and_from (list_all is_high (decimal c)) _ (number_high (decimal c) is_c)
    (and_from (list_all is_high g) true (name_high g is_g) refl))))
    commented clean
    (omega (
      arith,
      number_short (decimal a) is_a,
      number_short (decimal b) is_b,
      number_short (decimal c) is_c,
      length-append (spaced (codes "211" ∷ decimal a ∷ decimal b ∷ decimal c ∷ g ∷ [])) comment,
      length-append (decimal a) (32 ∷ spaced (decimal b ∷ decimal c ∷ g ∷ [])),
      length-append (decimal b) (32 ∷ spaced (decimal c ∷ g ∷ [])),
      length-append (decimal c) (32 ∷ g),
    ))

-- ---- answers

-- a code that begins with 4 or 5
abbrev pub is_failing : Octets → Bool
is_failing [] = false
is_failing (x ∷ rest) = x == 52 || x == 53

five_hundreds : (code : ℕ) → 400 ≤ code → code < 600 → ((48 + code / 100 == 52) || (48 + code / 100 == 53)) ≡ true
five_hundreds code low high = elim (cases_lt code 500) [
  | inl four ↦ or_left (48 + code / 100 == 52) (48 + code / 100 == 53) (eq-eqb (48 + code / 100) 52 (omega arith))
  | inr five ↦ or_right (48 + code / 100 == 52) (48 + code / 100 == 53) (eq-eqb (48 + code / 100) 53 (omega arith))
]

front_is : (code : ℕ) (ws : List Octets) (more : Octets) → 400 ≤ code → code < 600
    → is_failing (join_with_byte 32 (three_digits code ∷ ws) ++ more) ≡ true
front_is code [] more low high = five_hundreds code low high
front_is code (w ∷ ws) more low high = five_hundreds code low high

-- a response with such a code
pub fails : (asked : Asked) (reply : Octets) (response : IsResponse asked reply) → 400 ≤ response.code → is_failing reply ≡ true
fails asked reply response low =
    let first = response.initial in
    let more : Octets = crlf ++ response.rest in
    ap is_failing (response.octets_are ∙ append_assoc response.first crlf response.rest ∙ ap (λ (s : Octets). s ++ more) first.first_is
    ∙ append_assoc (join_with_byte 32 (three_digits response.code ∷ first.arguments)) first.comment more)
    ∙ front_is response.code first.arguments (first.comment ++ more) low first.range.1

-- all that is said of an answer
pub record IsGood (S : Spool) (x : Session) (asked : Asked) (a : Answer) : Type 0 where
  pub response : IsResponse asked a.reply
  pub failing : is_failing a.reply ≡ true → Keeps x a
  pub reader : IsReader S a.next

-- a reply that leaves the session as it is, or awaits something else
pub keeps : (S : Spool) (x : Session) (asked : Asked) (reply : Octets) → IsReader S x → IsResponse asked reply
    → IsGood S x asked (says x reply)
keeps S x asked reply reader response =
    record { response = response; failing = λ fails. record { change = refl; group = refl; current = refl }; reader = reader }

pub waits : (S : Spool) (x : Session) (asked : Asked) (reply : Octets) (what : Awaits) → IsReader S x → IsResponse asked reply
    → IsGood S x asked (says (awaiting x what) reply)
waits S x asked reply what reader response = record {
  response = response;
  failing = λ fails. record { change = refl; group = refl; current = refl };
  reader = record { group_made = reader.group_made; number_had = reader.number_had };
}
