-- The commands of RFC 3977, and the codes that each of them may be answered (sections 3.2.1, 5 to 8, 9.2; appendix C).
use Rattle.std.specs.Prelude.{ℕ, Bool, true, false, not, ◌==◌, nat_lt, if◌then◌else◌, List, [], ◌∷◌, ◌++◌, filter, find, length}
use Rattle.std.specs.Prelude.{unwrap_or, codes}
use Rattle.std.specs.List.{list_any, slice_split}
use Rattle.std.specs.Str.{str_eq_ignore_ascii_case}
use Rattle.model.specs.Stream.{Octets}
use Rattle.model_rfc.specs.Grammar.{is_blank, is_message_id, is_newsgroup_name}
use Rattle.model_rfc.specs.Syntax.{at_most_one, is_article, is_list, is_listgroup, is_newnews, is_since, is_wanted, nothing, one}

-- the codes that any command may get (3.2.1), but 500, which says that a command isn't recognized
abbrev pub generic : List ℕ
generic = 400 ∷ 401 ∷ 403 ∷ 480 ∷ 483 ∷ 501 ∷ 502 ∷ 503 ∷ 504 ∷ []

-- a command: whether words are its arguments, and what it may be answered, by codes of one line and codes with a block (3.2)
pub record Row : Type 0 where
  pub keyword : Octets
  pub syntax : List Octets → Bool
  pub single : List ℕ
  pub multi : List ℕ

-- a command of the table, to which any generic code may be answered
abbrev pub row : Octets → (List Octets → Bool) → List ℕ → List ℕ → Row
row keyword syntax single multi = record { keyword = keyword; syntax = syntax; single = single ++ generic; multi = multi }

-- each command with its section. HDR is left out: it is optional, and the server doesn't advertise it. CAPABILITIES takes any word here,
-- where the RFC has a keyword (5.2)
abbrev pub commands : List Row
commands =
    row (codes "ARTICLE") (at_most_one is_article) (412 ∷ 420 ∷ 423 ∷ 430 ∷ []) (220 ∷ []) ∷  -- 6.2.1
    row (codes "BODY") (at_most_one is_article) (412 ∷ 420 ∷ 423 ∷ 430 ∷ []) (222 ∷ []) ∷  -- 6.2.3
    row (codes "CAPABILITIES") (at_most_one (λ word. true)) [] (101 ∷ []) ∷  -- 5.2
    row (codes "DATE") nothing (111 ∷ []) [] ∷  -- 7.1
    row (codes "GROUP") (one is_newsgroup_name) (211 ∷ 411 ∷ []) [] ∷  -- 6.1.1
    row (codes "HEAD") (at_most_one is_article) (412 ∷ 420 ∷ 423 ∷ 430 ∷ []) (221 ∷ []) ∷  -- 6.2.2
    row (codes "HELP") nothing [] (100 ∷ []) ∷  -- 7.2
    row (codes "IHAVE") (one is_message_id) (335 ∷ 435 ∷ 436 ∷ []) [] ∷  -- 6.3.2
    row (codes "LAST") nothing (223 ∷ 412 ∷ 420 ∷ 422 ∷ []) [] ∷  -- 6.1.3
    row (codes "LIST") is_list [] (215 ∷ []) ∷  -- 7.6.1
    row (codes "LISTGROUP") is_listgroup (411 ∷ 412 ∷ []) (211 ∷ []) ∷  -- 6.1.2
    row (codes "MODE") (one (str_eq_ignore_ascii_case (codes "READER"))) (200 ∷ 201 ∷ []) [] ∷  -- 5.3
    row (codes "NEWGROUPS") is_since [] (231 ∷ []) ∷  -- 7.3
    row (codes "NEWNEWS") is_newnews [] (230 ∷ []) ∷  -- 7.4
    row (codes "NEXT") nothing (223 ∷ 412 ∷ 420 ∷ 421 ∷ []) [] ∷  -- 6.1.4
    row (codes "OVER") (at_most_one is_wanted) (412 ∷ 420 ∷ 423 ∷ 430 ∷ []) (224 ∷ []) ∷  -- 8.3
    row (codes "POST") nothing (340 ∷ 440 ∷ []) [] ∷  -- 6.3.1
    row (codes "QUIT") nothing (205 ∷ []) [] ∷  -- 5.4
    row (codes "STAT") (at_most_one is_article) (223 ∷ 412 ∷ 420 ∷ 423 ∷ 430 ∷ []) [] ∷  -- 6.2.4
    []

-- a line that is no command: 500 (3.2.1), or 400 where the server has to end
abbrev pub unrecognized : Row
unrecognized = record { keyword = []; syntax = λ words. true; single = 500 ∷ 400 ∷ []; multi = [] }

-- the greeting (5.1)
abbrev pub greeted : Row
greeted = record { keyword = []; syntax = λ words. true; single = 200 ∷ 201 ∷ 400 ∷ 502 ∷ []; multi = [] }

-- what follows an article that was sent (6.3.1, 6.3.2)
abbrev pub posted : Row
posted = row [] (λ words. true) (240 ∷ 441 ∷ []) []

abbrev pub transferred : Row
transferred = row [] (λ words. true) (235 ∷ 436 ∷ 437 ∷ []) []

-- a line of more than 512 octets, whose keyword isn't looked at (3.2.1: 501)
abbrev pub too_long : Row
too_long = row [] (λ words. true) [] []

-- ---- what a line asks

-- the row, and of LIST its own keyword
pub record Asked : Type 0 where
  pub row : Row
  pub listing : Octets

-- what has no keyword of its own
abbrev pub plainly : Row → Asked
plainly row = record { row = row; listing = [] }

-- a keyword is compared without case (3.1)
abbrev pub row_of : Octets → Row
row_of word = unwrap_or (find (λ (r : Row). str_eq_ignore_ascii_case r.keyword word) commands) unrecognized

-- the words of a line, between SP and TAB (3.1)
abbrev pub words : Octets → List Octets
words line = filter (λ word. nat_lt 0 (length word)) (slice_split is_blank line)

-- LIST without a keyword is LIST ACTIVE (7.6.1)
abbrev pub listing_word : List Octets → Octets
listing_word [] = codes "ACTIVE"
listing_word (word ∷ words) = word

-- what words ask, and a line
abbrev pub asked_words : List Octets → Asked
asked_words [] = plainly unrecognized
asked_words (word ∷ words) = record { row = row_of word; listing = listing_word words }

-- a command begins its line (3.1)
abbrev pub begins_blank : Octets → Bool
begins_blank [] = false
begins_blank (x ∷ rest) = is_blank x

abbrev pub asked_by : Octets → Asked
asked_by line = if begins_blank line then plainly unrecognized else asked_words (words line)

-- a command that is recognized, with words that aren't its arguments
abbrev pub are_bad_words : List Octets → Bool
are_bad_words [] = false
are_bad_words (word ∷ arguments) = not ((row_of word).syntax arguments)

abbrev pub is_bad : Octets → Bool
is_bad line = if begins_blank line then false else are_bad_words (words line)

-- ---- codes

-- whether a code is one of these
abbrev pub is_one_of : ℕ → List ℕ → Bool
is_one_of code list = list_any (λ c. c == code) list

-- whether a block follows is known by the command and the code (3.2, appendix C)
abbrev pub is_multi_line : Row → ℕ → Bool
is_multi_line row code = is_one_of code row.multi
