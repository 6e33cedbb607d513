-- How the server's blocks are those of the RFC.
use Rattle.std.proofs.Common.{◌≡◌, ℕ, ◌+◌, ◌-◌, List, [], ◌∷◌, ◌++◌, map, take, drop, refl, sym, ◌∙◌, ap, arith, Bool, true, false}
use Rattle.std.proofs.Common.{cond, ◌||◌, not}
use Rattle.std.proofs.Common.{append_assoc, one-add}
use Rattle.std.specs.Prelude.{length, flat_map, nat_eq, nat_lt, bytes_eq, ◌==◌}
use Rattle.std.specs.List.{concat, list_all, list_any, ends_with, onto_first, prefix_len, take_while}
use Rattle.std.proofs.lemmas.Bool.{true≢false, and_parts, and_from, false_from_ne_true, lt-ltb, ne_eqb}
use Rattle.std.proofs.lemmas.List.Sums.{take_while-cons}
use Rattle.std.proofs.lemmas.List.{take-append-drop, length-append}
use lib.Pointwise.{bytes_decides}
use Rattle.model.specs.Stream.{Octets, crlf, dot_line, line, lines, lines_after, stuffed_line}
use Rattle.model.specs.Article.{is_whole_line}
use Rattle.model.specs.Replies.{block}
use Rattle.model.proofs.LineLaws.{lines_after-lf, line_end-lf, lines-empty}
use Rattle.model_rfc.specs.Grammar.{is_line_octet}
use Rattle.model_rfc.specs.Responses.{doubled, sent}

-- a line as it is sent
abbrev pub sent_line : Octets → Octets
sent_line l = doubled l ++ crlf

sent_one : (l : Octets) → stuffed_line (line l) ≡ sent_line l
sent_one [] = refl
sent_one (x ∷ rest) = by_dot (x == 46) where
  by_dot : (b : Bool) → cond b (46 ∷ x ∷ (rest ++ crlf)) (x ∷ (rest ++ crlf)) ≡ cond b (46 ∷ x ∷ rest) (x ∷ rest) ++ crlf
  by_dot true = refl
  by_dot false = refl

pub sent_all : (ls : List Octets) → flat_map stuffed_line (map line ls) ≡ flat_map sent_line ls
sent_all [] = refl
sent_all (l ∷ ls) = ap (λ s. s ++ flat_map stuffed_line (map line ls)) (sent_one l) ∙ ap (λ s. sent_line l ++ s) (sent_all ls)

pub block_is : (status : Octets) (ls : List Octets) → block status ls ≡ status ++ crlf ++ sent ls
block_is status ls = ap (λ s. status ++ crlf ++ (s ++ dot_line)) (sent_all ls)

-- ---- the lines of a text

abbrev pub chopped : Octets → Octets
chopped l = take (length l - 2) l

pub whole_line : (l : Octets) → is_whole_line l ≡ true → (l ≡ line (chopped l)) × (list_all is_line_octet (chopped l) ≡ true)
whole_line l is =
    let both = and_parts (ends_with nat_eq l crlf) (list_all (λ x. not (x == 0 || (x == 10 || x == 13))) (take (length l - 2) l)) is in
    let end : crlf ≡ drop (length l - 2) l = (bytes_decides crlf (drop (length l - 2) l)).0 both.0 in
    (sym (take-append-drop (length l - 2) l) ∙ ap (λ e. take (length l - 2) l ++ e) (sym end), both.1)

pub record AreWhole (ws : List Octets) : Type 0 where
  pub texts : List Octets
  pub lines_are : ws ≡ map line texts
  pub clean : list_all (list_all is_line_octet) texts ≡ true

pub whole_lines : (ws : List Octets) → list_all is_whole_line ws ≡ true → AreWhole ws
whole_lines [] all = record { texts = []; lines_are = refl; clean = refl }
whole_lines (w ∷ ws) all =
    let both = and_parts (is_whole_line w) (list_all is_whole_line ws) all in
    let first = whole_line w both.0 in
    let rest = whole_lines ws both.1 in
    record {
      texts = chopped w ∷ rest.texts;
      lines_are = ap (λ l. l ∷ ws) first.0 ∙ ap (λ ls. line (chopped w) ∷ ls) rest.lines_are;
      clean = and_from (list_all is_line_octet (chopped w)) _ first.1 rest.clean;
    }

no_end : (before x : ℕ) → is_line_octet x ≡ true → bytes_eq crlf (before ∷ x ∷ []) ≡ false
no_end before x is = false_from_ne_true _ (λ ends. true≢false (sym is ∙ ap is_line_octet (line_end-lf before x ends)))

first_line : (before : ℕ) (l rest : Octets) → list_all is_line_octet l ≡ true
    → lines_after before (l ++ (13 ∷ 10 ∷ rest)) ≡ line l ∷ lines rest
unfolding lines_after
first_line before [] rest clean =
    let one : bytes_eq crlf (before ∷ 13 ∷ []) ≡ false = false_from_ne_true _
    (λ ends. let e : 13 ≡ 10 = line_end-lf before 13 ends in absurd (omega arith)) in
    ap (λ b. cond b ((13 ∷ []) ∷ ((10 ∷ []) ∷ lines_after 10 rest)) (onto_first 13 ((10 ∷ []) ∷ lines_after 10 rest))) one
    ∙ ap (λ ls. crlf ∷ ls) (lines_after-lf rest)
first_line before (x ∷ l) rest clean =
    let both = and_parts (is_line_octet x) (list_all is_line_octet l) clean in
    ap (λ b. cond b ((x ∷ []) ∷ lines_after x (l ++ (13 ∷ 10 ∷ rest))) (onto_first x (lines_after x (l ++ (13 ∷ 10 ∷ rest)))))
    (no_end before x both.0)
    ∙ ap (onto_first x) (first_line x l rest both.1)

-- lines that are joined are found again
pub lines_of : (ls : List Octets) → list_all (list_all is_line_octet) ls ≡ true → lines (concat (map line ls)) ≡ map line ls
lines_of [] clean = lines-empty
lines_of (l ∷ ls) clean =
    let both = and_parts (list_all is_line_octet l) (list_all (list_all is_line_octet) ls) clean in
    ap lines (append_assoc l crlf (concat (map line ls))) ∙ first_line 0 l (concat (map line ls)) both.0
    ∙ ap (λ s. line l ∷ s) (lines_of ls both.1)

-- ---- the header and the body of an article

not_empty : (x : ℕ) (l : Octets) → bytes_eq (line (x ∷ l)) crlf ≡ false
not_empty x l = false_from_ne_true _ (λ is. let e : length (line (x ∷ l)) ≡ 2 =
    ap (λ (s : Octets). length s) ((bytes_decides (line (x ∷ l)) crlf).0 is) in
    absurd (omega (arith, length-append l crlf)))

pub record IsSplit (ls : List Octets) : Type 0 where
  pub headers : List Octets
  pub body : List Octets
  pub all : ls ≡ headers ++ [] ∷ body
  pub empty : list_any (λ l. length l == 0) ls ≡ true
  pub before : take_while (λ l. nat_lt 0 (length l)) ls ≡ headers
  pub front : take_while (λ w. not (bytes_eq w crlf)) (map line ls) ≡ map line headers
  pub clean_headers : list_all (list_all is_line_octet) headers ≡ true
  pub clean_body : list_all (list_all is_line_octet) body ≡ true

pub split_at : (ls : List Octets) → list_all (list_all is_line_octet) ls ≡ true → list_any (λ w. bytes_eq w crlf) (map line ls) ≡ true
    → IsSplit ls
split_at [] clean some = absurd (true≢false (sym some))
split_at ([] ∷ ls) clean some = record {
  headers = [];
  body = ls;
  all = refl;
  empty = refl;
  before = refl;
  front = refl;
  clean_headers = refl;
  clean_body = (and_parts true (list_all (list_all is_line_octet) ls) clean).1;
}
split_at ((x ∷ l) ∷ ls) clean some =
    let both = and_parts (list_all is_line_octet (x ∷ l)) (list_all (list_all is_line_octet) ls) clean in
    let later : list_any (λ w. bytes_eq w crlf) (map line ls) ≡ true =
    sym (ap (λ b. b || list_any (λ w. bytes_eq w crlf) (map line ls)) (not_empty x l)) ∙ some in
    let rest = split_at ls both.1 later in
    record {
      headers = (x ∷ l) ∷ rest.headers;
      body = rest.body;
      all = ap (λ s. (x ∷ l) ∷ s) rest.all;
      empty = ap (λ b. b || list_any (λ k. length k == 0) ls) (ne_eqb (length (x ∷ l)) 0 (λ e. omega arith)) ∙ rest.empty;
      before = take_while-cons (λ k. nat_lt 0 (length k)) (x ∷ l) ls
          ∙ ap (λ b. cond b ((x ∷ l) ∷ take_while (λ k. nat_lt 0 (length k)) ls) []) (lt-ltb 0 (length (x ∷ l)) (omega arith))
          ∙ ap (λ s. (x ∷ l) ∷ s) rest.before;
      front = front_of rest.headers rest.front;
      clean_headers = and_from (list_all is_line_octet (x ∷ l)) _ both.0 rest.clean_headers;
      clean_body = rest.clean_body;
    }
  where
    more : (k : ℕ) → take (1 + k) (line (x ∷ l) ∷ map line ls) ≡ line (x ∷ l) ∷ take k (map line ls)
    more k = rw one-add refl

    front_of : (hs : List Octets) → take_while (λ w. not (bytes_eq w crlf)) (map line ls) ≡ map line hs
        → take_while (λ w. not (bytes_eq w crlf)) (map line ((x ∷ l) ∷ ls)) ≡ map line ((x ∷ l) ∷ hs)
    front_of hs is =
        let p : Octets → Bool = λ w. not (bytes_eq w crlf) in
        ap (λ b. take (cond (not b) (1 + prefix_len p (map line ls)) 0) (map line ((x ∷ l) ∷ ls))) (not_empty x l)
        ∙ more (prefix_len p (map line ls))
        ∙ ap (λ s. line (x ∷ l) ∷ s) is
