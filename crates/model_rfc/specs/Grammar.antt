-- The words of RFC 3977's grammar that occur in commands and in responses (sections 3.1, 3.1.1, 3.6, 6 and 9.8).
use Rattle.std.specs.Prelude.{ℕ, ◌-◌, Bool, true, false, not, ◌||◌, ◌&&◌, ◌==◌, nat_le, List, [], ◌∷◌, length, count_by, slice_index}
use Rattle.std.specs.Prelude.{codes, bytes_eq}
use Rattle.std.specs.List.{list_all, list_any, slice_split}
use Rattle.std.specs.Char.{is_ascii_alphabetic, is_ascii_alphanumeric, is_ascii_digit}
use Rattle.std.specs.Str.Parse.{digits_value}
use Rattle.model.specs.Stream.{Octets}

-- an octet of a line: any but NUL, LF and CR (3.1.1)
abbrev pub is_line_octet : ℕ → Bool
is_line_octet x = not (x == 0 || (x == 10 || x == 13))

-- A-CHAR (9.8)
abbrev pub is_printable : ℕ → Bool
is_printable x = nat_le 33 x && nat_le x 126

-- SP or TAB, which part words (3.1)
abbrev pub is_blank : ℕ → Bool
is_blank x = x == 32 || x == 9

-- 1*DIGIT, and so many DIGIT
abbrev pub are_digits : Octets → Bool
are_digits text = nat_le 1 (length text) && list_all is_ascii_digit text

abbrev pub has_digits : ℕ → Octets → Bool
has_digits count text = length text == count && list_all is_ascii_digit text

-- article-number: 1*16DIGIT (9.8)
abbrev pub is_article_number : Octets → Bool
is_article_number text = nat_le (length text) 16 && are_digits text

-- the greatest article number (6)
abbrev pub greatest_number : ℕ
greatest_number = 2_147_483_647

-- a number that is sent: at most the greatest. 0 stands for no number (6.2.1, 8.3)
abbrev pub is_number : Octets → Bool
is_number text = is_article_number text && nat_le (digits_value 10 text) greatest_number

-- message-id: from "<" to ">", which is only at its end; 3 to 250 printable octets (3.6, 9.8)
abbrev pub is_message_id : Octets → Bool
is_message_id text =
    (nat_le 3 (length text) && nat_le (length text) 250) && (list_all is_printable text
    && ((slice_index text 0 == 60 && slice_index text (length text - 1) == 62) && count_by (λ x. x == 62) text == 1))

-- wildmat-exact: printable or past US-ASCII, but none of ! * , ? [ \ ] (9.8; that those past US-ASCII are UTF-8 isn't tested)
abbrev pub is_exact : ℕ → Bool
is_exact x = (is_printable x || nat_le 128 x)
    && not (x == 33 || (x == 42 || (x == 44 || (x == 63 || (x == 91 || (x == 92 || x == 93))))))

-- newsgroup-name: 1*wildmat-exact (9.8)
abbrev pub is_newsgroup_name : Octets → Bool
is_newsgroup_name text = nat_le 1 (length text) && list_all is_exact text

-- newsgroup-status (7.6.3), of which this server has no further ones
abbrev pub is_status : Octets → Bool
is_status text = list_any (bytes_eq text) (codes "y" ∷ codes "n" ∷ codes "m" ∷ [])

-- token: 1*P-CHAR (9.8), here without octets past US-ASCII
abbrev pub is_token : Octets → Bool
is_token text = nat_le 1 (length text) && list_all is_printable text

-- keyword: a letter, and two or more letters, digits, dots and dashes (9.8)
abbrev pub is_keyword : Octets → Bool
is_keyword [] = false
is_keyword (x ∷ rest) = is_ascii_alphabetic x && (nat_le 2 (length rest)
    && list_all (λ y. is_ascii_alphanumeric y || (y == 45 || y == 46)) rest)

-- words that pass these tests, one by one
abbrev pub are : List (Octets → Bool) → List Octets → Bool
are [] [] = true
are (test ∷ tests) (word ∷ words) = test word && are tests words
are tests words = false

-- words that pass these tests, with one SP between two
abbrev pub are_words : List (Octets → Bool) → Octets → Bool
are_words tests line = are tests (slice_split (λ x. x == 32) line)
