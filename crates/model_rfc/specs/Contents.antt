-- What the blocks of responses contain (RFC 3977, sections 3.3, 3.6, 7.6, 8 and 9.4 to 9.7), each as a test of a block's lines.
use Rattle.std.specs.Prelude.{ℕ, Bool, true, false, not, ◌||◌, ◌&&◌, ◌==◌, nat_le, nat_lt, if◌then◌else◌, List, [], ◌∷◌, length, map, find}
use Rattle.std.specs.Prelude.{take}
use Rattle.std.specs.Prelude.{drop, option_map, unwrap_or, codes, bytes_eq}
use Rattle.std.specs.List.{list_all, list_any, prefix_len, slice_split, take_while}
use Rattle.std.specs.Str.{str_eq_ignore_ascii_case}
use Rattle.model.specs.Stream.{Octets}
use Rattle.model_rfc.specs.Grammar.{are, are_digits, are_words, is_keyword, is_message_id, is_newsgroup_name, is_number, is_printable}
use Rattle.model_rfc.specs.Grammar.{is_status, is_token}
use Rattle.model_rfc.specs.Syntax.{is_keyword_in, nothing}
use Rattle.model_rfc.specs.Commands.{Row, begins_blank, commands, words}

-- ---- articles

-- how many octets a line has before the first of this value
abbrev pub size_before : ℕ → Octets → ℕ
size_before mark line = prefix_len (λ x. not (x == mark)) line

-- a header begins with its name, of printable octets but ":", and then ": " (3.6)
abbrev pub begins_header : Octets → Bool
begins_header line =
    let size = size_before 58 line in
    (nat_le 1 size && list_all is_printable (take size line)) && bytes_eq (take 2 (drop size line)) (codes ": ")

-- each line begins a header, or goes on with the one before it (3.6)
abbrev pub are_headers : List Octets → Bool
are_headers [] = false
are_headers (first ∷ later) = begins_header first && list_all (λ line. begins_blank line || begins_header line) later

-- headers, an empty line, the body (3.6, 9.6)
abbrev pub is_article_text : List Octets → Bool
is_article_text lines =
    list_any (λ line. length line == 0) lines && are_headers (take_while (λ line. nat_lt 0 (length line)) lines)

-- what LIST OVERVIEW.FMT names, in the order of OVER's fields (8.4)
abbrev pub field_names : List Octets
field_names = codes "Subject:" ∷ codes "From:" ∷ codes "Date:" ∷ codes "Message-ID:" ∷ codes "References:" ∷ codes ":bytes"
    ∷ codes ":lines" ∷ []

-- the number, and as many fields as the format names, with a TAB before each (8.3.2, 9.4.3)
abbrev pub are_fields : List Octets → Bool
are_fields [] = false
are_fields (number ∷ fields) = is_number number && length fields == length field_names

abbrev pub is_overview : Octets → Bool
is_overview line = are_fields (slice_split (λ x. x == 9) line)

-- ---- groups

-- name, high, low and status (7.6.3)
abbrev pub is_active : Octets → Bool
is_active line = are_words (is_newsgroup_name ∷ is_number ∷ is_number ∷ is_status ∷ []) line

-- name, seconds since 1970, and who made it, here in one word (7.6.4)
abbrev pub is_creation : Octets → Bool
is_creation line = are_words (is_newsgroup_name ∷ are_digits ∷ is_token ∷ []) line

-- name, TAB, description (7.6.6). The RFC's description has an octet that is no blank (9.7); here it may have none
abbrev pub is_description : Octets → Bool
is_description line = list_any (λ x. x == 9) line && is_newsgroup_name (take (size_before 9 line) line)

-- ---- capabilities

-- a capability-line: a label and its arguments (9.5)
abbrev pub is_capability : List Octets → Bool
is_capability [] = false
is_capability (label ∷ arguments) = is_keyword label && list_all is_token arguments

-- the words of a capability's line, or none where it isn't advertised
abbrev pub capability : Octets → List Octets → List Octets
capability label lines = unwrap_or (find (λ ws. list_any (str_eq_ignore_ascii_case label) (take 1 ws)) (map words lines)) []

-- what LIST shows, by its own keyword, which is compared without case (7.6.2)
abbrev pub listings : List (Octets × (List Octets → Bool))
listings =
    (codes "ACTIVE", list_all is_active)  -- 7.6.3
    ∷ (codes "ACTIVE.TIMES", list_all is_creation)  -- 7.6.4
    ∷ (codes "NEWSGROUPS", list_all is_description)  -- 7.6.6
    ∷ (codes "OVERVIEW.FMT", are (map bytes_eq field_names))  -- 8.4
    ∷ []

-- of LIST with this keyword
abbrev pub listing_content : Octets → List Octets → Bool
listing_content word =
    unwrap_or (option_map (λ l. l.1) (find (λ (l : Octets × (List Octets → Bool)). str_eq_ignore_ascii_case l.0 word) listings))
    (λ lines. true)

-- a capability (3.3.2), the commands that it stands for (appendix B), and what LIST has to show for it (7.6.3, 7.6.6, 8.4, 8.6.2). VERSION,
-- which is always advertised, has the mandatory commands
abbrev pub indicated : List (Octets × Octets × Octets)
indicated =
    (codes "VERSION", codes "CAPABILITIES HEAD HELP QUIT STAT", [])
    ∷ (codes "READER", codes "ARTICLE BODY DATE GROUP LAST LISTGROUP NEWGROUPS NEXT", codes "ACTIVE NEWSGROUPS")
    ∷ (codes "HDR", codes "HDR", codes "HEADERS") ∷ (codes "OVER", codes "OVER", codes "OVERVIEW.FMT")
    ∷ (codes "IHAVE", codes "IHAVE", []) ∷ (codes "LIST", codes "LIST", []) ∷ (codes "NEWNEWS", codes "NEWNEWS", [])
    ∷ (codes "POST", codes "POST", []) ∷ []

-- what a capability that is advertised stands for is in the table of commands, none of which is answered 500 (3.4.1), and among LIST's
-- arguments
abbrev pub is_kept : List Octets → Octets × Octets × Octets → Bool
is_kept lines row = nothing (capability row.0 lines)
    || (list_all (is_keyword_in (map (λ (r : Row). r.keyword) commands)) (words row.1)
    && list_all (is_keyword_in (capability (codes "LIST") lines)) (words row.2))

-- each line is a capability, the first is VERSION 2, LIST's arguments are its own keywords (3.3.2), and what is advertised is there
abbrev pub are_capabilities : List Octets → Bool
are_capabilities lines =
    (list_any (bytes_eq (codes "VERSION 2")) (take 1 lines) && list_all (λ line. is_capability (words line)) lines)
    && (list_all (is_keyword_in (map (λ (l : Octets × (List Octets → Bool)). l.0) listings)) (drop 1 (capability (codes "LIST") lines))
    && list_all (is_kept lines) indicated)

-- ---- by code

-- what the block of a code contains, of LIST by its own keyword (9.4.3)
abbrev pub content_of : Octets → ℕ → List Octets → Bool
content_of listing code =
    if code == 101 then are_capabilities
    else if code == 211 then list_all is_number
    else if code == 215 then listing_content listing
    else if code == 220 then is_article_text
    else if code == 221 then are_headers
    else if code == 224 then list_all is_overview
    else if code == 230 then list_all is_message_id
    else if code == 231 then list_all is_active
    else λ lines. true
