-- What OVER shows of an article (RFC 3977, sections 3.6, 8.1, 8.3 and 8.4), by the lines that ARTICLE sends of it.
use Rattle.std.specs.Prelude.{◌≡◌, ℕ, ◌+◌, true, ◌==◌, nat_lt, if◌then◌else◌, List, [], ◌∷◌, ◌++◌, length, map, take, drop, flat_map}
use Rattle.std.specs.Prelude.{codes, decimal, bytes_eq}
use Rattle.std.specs.List.{concat, list_all, join_with_byte, take_while}
use Rattle.std.specs.Str.{str_eq_ignore_ascii_case}
use Rattle.model.specs.Stream.{Octets, crlf, line}
use Rattle.model.specs.declared.session.Answer.{Answer}
use Rattle.model.specs.declared.session.Session.{Session}
use Rattle.model_rfc.specs.Grammar.{is_line_octet}
use Rattle.model_rfc.specs.Commands.{begins_blank}
use Rattle.model_rfc.specs.Contents.{field_names, size_before}
use Rattle.model_rfc.specs.Responses.{sent}
use Rattle.model_rfc.specs.States.{Refuses, Stays}

-- ---- the parts of an article

-- its headers stand in the lines before the first empty one, and its body in those after it (3.6)
abbrev pub header_lines : List Octets → List Octets
header_lines lines = take_while (λ line. nat_lt 0 (length line)) lines

abbrev pub body_lines : List Octets → List Octets
body_lines lines = drop (length (header_lines lines) + 1) lines

-- a header's name stands before its colon (3.6)
abbrev pub header_name : Octets → Octets
header_name line = take (size_before 58 line) line

-- the content of the first header of this name, in any case: what follows the colon and SP, and the lines that go on with it, all without
-- their CRLF (3.6, 8.3.2). Without such a header it is empty
unfoldable pub header_content : Octets → List Octets → Octets
header_content name [] = []
header_content name (line ∷ later) =
    if str_eq_ignore_ascii_case (header_name line) name
    then drop (size_before 58 line + 2) line ++ concat (take_while begins_blank later)
    else header_content name later

-- ---- the overview

-- the octets of an article, two of them for each CRLF (8.1.1)
abbrev pub octet_count : List Octets → ℕ
octet_count lines = length (flat_map (λ line. line ++ crlf) lines)

-- the field that LIST OVERVIEW.FMT names so: the octets (8.1.1), the lines of the body (8.1.2), or a header's content, in which TAB is
-- shown as SP (8.3.2)
abbrev pub field_of : List Octets → Octets → Octets
field_of lines name =
    if bytes_eq name (codes ":bytes") then decimal (octet_count lines)
    else if bytes_eq name (codes ":lines") then decimal (length (body_lines lines))
    else map (λ x. if x == 9 then 32 else x) (header_content (header_name name) (header_lines lines))

-- the line of an article with these lines: its number, and each field in the order of the names, with a TAB between two (8.3.2, 8.4.2)
abbrev pub overview_of : ℕ → List Octets → Octets
overview_of number lines = join_with_byte 9 (decimal number ∷ map (field_of lines) field_names)

-- ---- OVER's answer

-- this is the line of the article that ARTICLE sends in its answer, with the number that ARTICLE says (6.2.1.2)
pub record IsShownOf (number : ℕ) (article : Answer) (shown : Octets) : Type 0 where
  pub id : Octets
  pub lines : List Octets
  pub clean : list_all (list_all is_line_octet) lines ≡ true
  pub article_is : article.reply ≡ line (join_with_byte 32 (codes "220" ∷ decimal number ∷ id ∷ [])) ++ sent lines
  pub shown_is : shown ≡ overview_of number lines

-- a line for each of these numbers, by what ARTICLE answers to it
abbrev pub AreShownOf : (ℕ → Answer) → List ℕ → List Octets → Type 0
AreShownOf article [] [] = Unit {0}
AreShownOf article (number ∷ numbers) (shown ∷ more) = IsShownOf number (article number) shown × AreShownOf article numbers more
AreShownOf article numbers shown = ⊥

-- an answer shows the articles of these numbers in order, and leaves all
pub record IsOverview (x : Session) (article : ℕ → Answer) (numbers : List ℕ) (a : Answer) : Type 0 where
  pub stays : Stays x a
  pub shown : List Octets
  pub each : AreShownOf article numbers shown
  pub reply_is : a.reply ≡ line (codes "224 Overview follows") ++ sent shown

-- so it does, or there are none, and it is refused
abbrev pub Overviews : Session → (ℕ → Answer) → List ℕ → Answer → Type 0
Overviews x article [] a = Refuses x (codes "423 No such article number") a
Overviews x article (number ∷ numbers) a = IsOverview x article (number ∷ numbers) a
