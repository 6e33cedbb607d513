-- The arguments of the commands (RFC 3977, sections 9.2, 9.3 and 9.8), each as a test of the words that follow a command's keyword.
use Rattle.std.specs.Prelude.{ℕ, Bool, true, false, not, ◌||◌, ◌&&◌, ◌==◌, nat_le, if◌then◌else◌, List, [], ◌∷◌, length, codes}
use Rattle.std.specs.List.{list_all, list_any, slice_split}
use Rattle.std.specs.Str.{str_eq_ignore_ascii_case}
use Rattle.model.specs.Stream.{Octets}
use Rattle.model_rfc.specs.Grammar.{has_digits, is_article_number, is_message_id, is_newsgroup_name, is_printable}

-- ---- one word

-- range: n, n- or n-m (6.1.2.1, 8.3.1), by what stands between the dashes
abbrev pub is_range_of : List Octets → Bool
is_range_of (first ∷ []) = is_article_number first
is_range_of (first ∷ [] ∷ []) = is_article_number first
is_range_of (first ∷ last ∷ []) = is_article_number first && is_article_number last
is_range_of parts = false

abbrev pub is_range : Octets → Bool
is_range text = is_range_of (slice_split (λ x. x == 45) text)

-- wildmat-item: wildmat-exact, * or ?
abbrev pub is_item : ℕ → Bool
is_item x = (is_printable x || nat_le 128 x) && not (x == 33 || (x == 44 || (x == 91 || (x == 92 || x == 93))))

-- wildmat-pattern: 1*wildmat-item
abbrev pub is_pattern : Octets → Bool
is_pattern text = nat_le 1 (length text) && list_all is_item text

-- ["!"] wildmat-pattern
abbrev pub is_later_pattern : Octets → Bool
is_later_pattern [] = false
is_later_pattern (x ∷ text) = if x == 33 then is_pattern text else is_pattern (x ∷ text)

-- wildmat: wildmat-pattern *("," ["!"] wildmat-pattern), by what stands between the commas
abbrev pub is_wildmat_of : List Octets → Bool
is_wildmat_of [] = false
is_wildmat_of (first ∷ later) = is_pattern first && list_all is_later_pattern later

abbrev pub is_wildmat : Octets → Bool
is_wildmat text = is_wildmat_of (slice_split (λ x. x == 44) text)

-- an article by its id or its number (6.2.1), and articles by an id or a range (8.3)
abbrev pub is_article : Octets → Bool
is_article word = is_message_id word || is_article_number word

abbrev pub is_wanted : Octets → Bool
is_wanted word = is_message_id word || is_range word

-- a keyword is compared without case (3.1, 7.6.2)
abbrev pub is_keyword_in : List Octets → Octets → Bool
is_keyword_in keywords word = list_any (λ keyword. str_eq_ignore_ascii_case keyword word) keywords

-- ---- a command's words

-- no word, one word that passes, and one or none
abbrev pub nothing : List Octets → Bool
nothing [] = true
nothing (word ∷ words) = false

abbrev pub one : (Octets → Bool) → List Octets → Bool
one test (word ∷ []) = test word
one test words = false

abbrev pub at_most_one : (Octets → Bool) → List Octets → Bool
at_most_one test words = nothing words || one test words

-- date: [2DIGIT] 6DIGIT; time: 6DIGIT; then perhaps "GMT" (7.3.1)
abbrev pub is_since : List Octets → Bool
is_since (date ∷ time ∷ zone) =
    ((has_digits 6 date || has_digits 8 date) && has_digits 6 time) && at_most_one (str_eq_ignore_ascii_case (codes "GMT")) zone
is_since words = false

-- wildmat, then date and time (7.4.1)
abbrev pub is_newnews : List Octets → Bool
is_newnews [] = false
is_newnews (wildmat ∷ words) = is_wildmat wildmat && is_since words

-- [newsgroup-name [range]] (6.1.2.1)
abbrev pub is_listgroup : List Octets → Bool
is_listgroup [] = true
is_listgroup (name ∷ range) = is_newsgroup_name name && at_most_one is_range range

-- LIST's own keywords that are here, with a wildmat or without; any other is a syntax error (3.2.1, 7.6.1)
abbrev pub is_list : List Octets → Bool
is_list [] = true
is_list (word ∷ wildmat) =
    (is_keyword_in (codes "ACTIVE" ∷ codes "ACTIVE.TIMES" ∷ codes "NEWSGROUPS" ∷ []) word && at_most_one is_wildmat wildmat)
    || (str_eq_ignore_ascii_case (codes "OVERVIEW.FMT") word && nothing wildmat)
