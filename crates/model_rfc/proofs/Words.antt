-- The words of a response.
use Rattle.std.proofs.Common.{◌≡◌, ◌≢◌, ℕ, ◌+◌, ◌<◌, ◌≤◌, ◌^◌, ◌/◌, ◌%◌, List, [], ◌∷◌, ◌++◌, refl, sym, ◌∙◌, ap, arith, inl, inr, Bool}
use Rattle.std.proofs.Common.{true, cond, ◌&&◌, ◌||◌, not}
use Rattle.std.specs.Prelude.{length, nat_le, ◌==◌, decimal}
use Rattle.std.specs.List.{list_all, join_with_byte, slice_split, onto_first}
use Rattle.std.specs.Char.{is_ascii_digit, is_ascii_alphanumeric}
use Rattle.std.specs.Int.{is_in_range}
use Rattle.std.proofs.lemmas.Str.Parse.{digit_from_value}
use Rattle.std.proofs.lemmas.List.Folds.{list_all-append}
use Rattle.model.specs.Calendar.{date_reply, date_at, two_digits, hour_at, minute_at, second_at}
use Rattle.std.specs.Str.Parse.{digits_value, AllDigits}
use Rattle.std.proofs.lemmas.Bool.{true≢false, and_parts, and_from, or_cases, or_from, not_from_false, leb-true, le-leb, eqb-true, eq-eqb}
use Rattle.std.proofs.lemmas.Bool.{ne_eqb, not-true}
use Rattle.std.proofs.lemmas.Fmt.{decimal_is_IsNumeral, length-decimal-le}
use Rattle.model.specs.Stream.{Octets}
use Rattle.model.specs.Names.{is_group_name, is_group_octet, is_dotted}
use Rattle.model_rfc.specs.Grammar.{are, are_digits, are_words, greatest_number, has_digits, is_article_number, is_exact, is_line_octet}
use Rattle.model_rfc.specs.Grammar.{is_message_id}
use Rattle.model_rfc.specs.Grammar.{is_newsgroup_name, is_number, is_printable}
use Rattle.model_rfc.proofs.Lists.{all_more, lists_more, parts_pass}

-- ---- octets from 33 on

abbrev pub is_high : ℕ → Bool
is_high x = nat_le 33 x

pub high_clean : (x : ℕ) → is_high x ≡ true → is_line_octet x ≡ true
high_clean x is =
    let low : 33 ≤ x = leb-true 33 x is in
    not_from_false _ (or_from (x == 0) _ (ne_eqb x 0 (λ e. omega arith)) (or_from (x == 10) _ (ne_eqb x 10 (λ e. omega arith))
    (ne_eqb x 13 (λ e. omega arith))))

pub high_other : (c : ℕ) → c < 33 → (x : ℕ) → is_high x ≡ true → not (x == c) ≡ true
high_other c below x is = let low : 33 ≤ x = leb-true 33 x is in not_from_false _ (ne_eqb x c (λ e. omega arith))

pub digit_high : (x : ℕ) → is_ascii_digit x ≡ true → is_high x ≡ true
digit_high x is = le-leb 33 x (omega (arith, leb-true 48 x (and_parts (nat_le 48 x) (nat_le x 57) is).0))

pub visible_high : (x : ℕ) → is_printable x ≡ true → is_high x ≡ true
visible_high x is = (and_parts (nat_le 33 x) (nat_le x 126) is).0

exact_high : (x : ℕ) → is_exact x ≡ true → is_high x ≡ true
exact_high x is = elim (or_cases (is_printable x) (nat_le 128 x) (and_parts (is_printable x || nat_le 128 x) _ is).0) [
  | inl visible ↦ visible_high x visible
  | inr beyond ↦ le-leb 33 x (omega (arith, leb-true 128 x beyond))
]

-- ---- numbers

all_digits : (ds : Octets) → AllDigits 10 ds → list_all is_ascii_digit ds ≡ true
all_digits [] all = refl
all_digits (d ∷ ds) all =
    let range = digit_from_value d all.0 in
    and_from (is_ascii_digit d) _ (and_from (nat_le 48 d) _ (le-leb 48 d (omega (arith, range))) (le-leb d 57 (omega (arith, range))))
    (all_digits ds all.1)

pub digits_of : (n : ℕ) → n < 2 ^ 64 → are_digits (decimal n) ≡ true
digits_of n small =
    let is = (decimal_is_IsNumeral n small).0 in
    and_from (nat_le 1 (length (decimal n))) _ (le-leb 1 (length (decimal n)) (omega (arith, is.0))) (all_digits (decimal n) is.1)

pub number_of : (n : ℕ) → n ≤ greatest_number → is_number (decimal n) ≡ true
number_of n within =
    let small : n < 2 ^ 64 = omega arith in
    let short : length (decimal n) ≤ 16 = length-decimal-le 16 n (omega arith) (omega arith) small in
    let value : digits_value 10 (decimal n) ≡ n = (decimal_is_IsNumeral n small).1 in
    and_from _ _ (and_from _ _ (le-leb (length (decimal n)) 16 short) (digits_of n small))
    (le-leb (digits_value 10 (decimal n)) greatest_number (rw value within))

-- ---- names

within : (low high x : ℕ) → is_in_range low high x ≡ true → (low ≤ x) × (x ≤ high)
within low high x in_range = let both = and_parts (nat_le low x) (nat_le x high) in_range in
    (leb-true low x both.0, leb-true x high both.1)

exact_from : (x : ℕ) → 45 ≤ x → x ≤ 122 → x ≢ 63 → x ≢ 91 → x ≢ 92 → x ≢ 93 → is_exact x ≡ true
exact_from x low high a b c d =
    and_from _ _ (ap (λ y. y || nat_le 128 x) (and_from (nat_le 33 x) _ (le-leb 33 x (omega arith)) (le-leb x 126 (omega arith))))
    (not_from_false _ (or_from (x == 33) _ (ne_eqb x 33 (λ e. omega arith)) (or_from (x == 42) _ (ne_eqb x 42 (λ e. omega arith))
    (or_from (x == 44) _ (ne_eqb x 44 (λ e. omega arith)) (or_from (x == 63) _ (ne_eqb x 63 a) (or_from (x == 91) _ (ne_eqb x 91 b)
    (or_from (x == 92) _ (ne_eqb x 92 c) (ne_eqb x 93 d))))))))

octet_exact : (x : ℕ) → is_group_octet x ≡ true → is_exact x ≡ true
octet_exact x is = elim (or_cases (is_ascii_alphanumeric x) (x == 43 || (x == 45 || x == 95)) is) [
  | inr sign ↦ elim (or_cases (x == 43) (x == 45 || x == 95) sign) [
    | inl plus ↦ ap is_exact (eqb-true x 43 plus)
    | inr other ↦ elim (or_cases (x == 45) (x == 95) other) [
      | inl dash ↦ ap is_exact (eqb-true x 45 dash)
      | inr bar ↦ ap is_exact (eqb-true x 95 bar)
    ]
  ]
  | inl letter ↦ elim (or_cases (is_in_range 48 57 x || is_in_range 65 90 x) (is_in_range 97 122 x) letter) [
    | inr little ↦ let r = within 97 122 x little in
        exact_from x (omega (arith, r)) (omega (arith, r)) (λ e. omega (arith, r)) (λ e. omega (arith, r)) (λ e. omega (arith, r))
        (λ e. omega (arith, r))
    | inl other ↦ elim (or_cases (is_in_range 48 57 x) (is_in_range 65 90 x) other) [
      | inl digit ↦ let r = within 48 57 x digit in
          exact_from x (omega (arith, r)) (omega (arith, r)) (λ e. omega (arith, r)) (λ e. omega (arith, r)) (λ e. omega (arith, r))
          (λ e. omega (arith, r))
      | inr capital ↦ let r = within 65 90 x capital in
          exact_from x (omega (arith, r)) (omega (arith, r)) (λ e. omega (arith, r)) (λ e. omega (arith, r)) (λ e. omega (arith, r))
          (λ e. omega (arith, r))
    ]
  ]
]

name_some : (g : Octets) → is_group_name g ≡ true → 1 ≤ length g
name_some [] good = absurd (true≢false (sym good))
name_some (x ∷ g) good = omega arith

-- a group name of this server's is one of the RFC's
pub name_of : (g : Octets) → is_group_name g ≡ true → is_newsgroup_name g ≡ true
name_of g good =
    and_from (nat_le 1 (length g)) _ (le-leb 1 (length g) (name_some g good))
    (parts_pass is_group_octet (λ x. x == 46) is_exact octet_exact (λ x is. ap is_exact (eqb-true x 46 is)) g
    (and_parts (nat_le (length g) 40) (is_dotted is_group_octet g) good).1)

pub name_short : (g : Octets) → is_group_name g ≡ true → length g ≤ 40
name_short g good = leb-true (length g) 40 (and_parts (nat_le (length g) 40) (is_dotted is_group_octet g) good).0

-- ---- DATE

digit_from : (n : ℕ) → is_ascii_digit (48 + n % 10) ≡ true
digit_from n = and_from (nat_le 48 (48 + n % 10)) _ (le-leb 48 (48 + n % 10) (omega arith)) (le-leb (48 + n % 10) 57 (omega arith))

two_are : (n : ℕ) → list_all is_ascii_digit (two_digits n) ≡ true
two_are n = and_from _ _ (digit_from (n / 10)) (and_from _ true (digit_from n) refl)

both_are : (xs ys : Octets) → list_all is_ascii_digit xs ≡ true → list_all is_ascii_digit ys ≡ true
    → list_all is_ascii_digit (xs ++ ys) ≡ true
both_are xs ys first second = list_all-append is_ascii_digit xs ys ∙ and_from (list_all is_ascii_digit xs) _ first second

pub moment_of : (t : ℕ) → has_digits 14 (date_reply t) ≡ true
moment_of t =
    let d = date_at t in
    let year : Octets = two_digits (d.year / 100) ++ two_digits d.year in
    let month : Octets = year ++ two_digits d.month in
    let day : Octets = month ++ two_digits d.day in
    let hour : Octets = day ++ two_digits (hour_at t) in
    let minute : Octets = hour ++ two_digits (minute_at t) in
    both_are minute (two_digits (second_at t)) (both_are hour (two_digits (minute_at t)) (both_are day (two_digits (hour_at t))
    (both_are month (two_digits d.day) (both_are year (two_digits d.month)
    (both_are (two_digits (d.year / 100)) (two_digits d.year) (two_are (d.year / 100)) (two_are d.year)) (two_are d.month))
    (two_are d.day)) (two_are (hour_at t))) (two_are (minute_at t))) (two_are (second_at t))

-- ---- words

pub digits_high : (w : Octets) → are_digits w ≡ true → list_all is_high w ≡ true
digits_high w is = all_more is_ascii_digit is_high digit_high w (and_parts (nat_le 1 (length w)) _ is).1

article_number : (w : Octets) → is_number w ≡ true → (nat_le (length w) 16 ≡ true) × (are_digits w ≡ true)
article_number w is = and_parts (nat_le (length w) 16) (are_digits w) (and_parts (is_article_number w) _ is).0

pub number_high : (w : Octets) → is_number w ≡ true → list_all is_high w ≡ true
number_high w is = digits_high w (article_number w is).1

pub id_high : (w : Octets) → is_message_id w ≡ true → list_all is_high w ≡ true
id_high w is = all_more is_printable is_high visible_high w
    (and_parts (list_all is_printable w) _ (and_parts (nat_le 3 (length w) && nat_le (length w) 250) _ is).1).0

pub name_high : (w : Octets) → is_newsgroup_name w ≡ true → list_all is_high w ≡ true
name_high w is = all_more is_exact is_high exact_high w (and_parts (nat_le 1 (length w)) _ is).1

pub number_short : (w : Octets) → is_number w ≡ true → length w ≤ 16
number_short w is = leb-true (length w) 16 (article_number w is).0

pub id_short : (w : Octets) → is_message_id w ≡ true → length w ≤ 250
id_short w is =
    leb-true (length w) 250 (and_parts (nat_le 3 (length w)) _ (and_parts (nat_le 3 (length w) && nat_le (length w) 250) _ is).0).1

pub date_high : (t : ℕ) → list_all (list_all is_high) (date_reply t ∷ []) ≡ true
date_high t = and_from (list_all is_high (date_reply t)) true
    (all_more is_ascii_digit is_high digit_high (date_reply t) (and_parts (length (date_reply t) == 14) _ (moment_of t)).1) refl

-- ---- words in a line

pub words_clean : (ws : List Octets) → list_all (list_all is_high) ws ≡ true → list_all is_line_octet (join_with_byte 32 ws) ≡ true
words_clean [] all = refl
words_clean (w ∷ []) all = all_more is_high is_line_octet high_clean w (and_parts (list_all is_high w) _ all).0
words_clean (w ∷ v ∷ ws) all =
    let both = and_parts (list_all is_high w) (list_all (list_all is_high) (v ∷ ws)) all in
    list_all-append is_line_octet w (32 ∷ join_with_byte 32 (v ∷ ws))
    ∙ and_from (list_all is_line_octet w) _ (all_more is_high is_line_octet high_clean w both.0) (words_clean (v ∷ ws) both.1)

abbrev pub is_other : ℕ → ℕ → Bool
is_other c x = not (x == c)

split_last : (c : ℕ) (w : Octets) → list_all (is_other c) w ≡ true → slice_split (λ x. x == c) w ≡ w ∷ []
split_last c [] all = refl
split_last c (x ∷ w) all =
    let both = and_parts (is_other c x) (list_all (is_other c) w) all in
    let parts : List Octets = slice_split (λ y. y == c) w in
    ap (λ b. cond b ([] ∷ parts) (onto_first x parts)) (not-true (x == c) both.0) ∙ ap (onto_first x) (split_last c w both.1)

split_next : (c : ℕ) (w more : Octets) → list_all (is_other c) w ≡ true
    → slice_split (λ x. x == c) (w ++ c ∷ more) ≡ w ∷ slice_split (λ x. x == c) more
split_next c [] more all =
    let parts : List Octets = slice_split (λ y. y == c) more in ap (λ b. cond b ([] ∷ parts) (onto_first c parts)) (eq-eqb c c refl)
split_next c (x ∷ w) more all =
    let both = and_parts (is_other c x) (list_all (is_other c) w) all in
    let parts : List Octets = slice_split (λ y. y == c) (w ++ c ∷ more) in
    ap (λ b. cond b ([] ∷ parts) (onto_first x parts)) (not-true (x == c) both.0) ∙ ap (onto_first x) (split_next c w more both.1)

-- texts that are joined are found again
pub split_joined : (c : ℕ) (w : Octets) (ws : List Octets) → list_all (list_all (is_other c)) (w ∷ ws) ≡ true
    → slice_split (λ x. x == c) (join_with_byte c (w ∷ ws)) ≡ w ∷ ws
split_joined c w [] all = split_last c w (and_parts (list_all (is_other c) w) _ all).0
split_joined c w (v ∷ ws) all =
    let both = and_parts (list_all (is_other c) w) (list_all (list_all (is_other c)) (v ∷ ws)) all in
    split_next c w (join_with_byte c (v ∷ ws)) both.0 ∙ ap (λ parts. w ∷ parts) (split_joined c v ws both.1)

-- words that pass tests, and the line of them
pub words_pass : (tests : List (Octets → Bool)) (w : Octets) (ws : List Octets) → list_all (list_all is_high) (w ∷ ws) ≡ true
    → are tests (w ∷ ws) ≡ true → are_words tests (join_with_byte 32 (w ∷ ws)) ≡ true
words_pass tests w ws high pass = ap (are tests) (split_joined 32 w ws
    (lists_more is_high (is_other 32) (high_other 32 (omega arith)) (w ∷ ws) high)) ∙ pass
