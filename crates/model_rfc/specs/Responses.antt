-- The form of a response (RFC 3977, sections 3.1, 3.1.1, 3.2 and 9.4).
use Rattle.std.specs.Prelude.{◌≡◌, ℕ, ◌+◌, ◌/◌, ◌%◌, ◌<◌, ◌≤◌, Bool, true, false, ◌==◌, if◌then◌else◌, List, [], ◌∷◌, ◌++◌, flat_map}
use Rattle.std.specs.Prelude.{length, take}
use Rattle.std.specs.List.{list_all, join_with_byte}
use Rattle.model.specs.Stream.{Octets, crlf}
use Rattle.model_rfc.specs.Grammar.{are, has_digits, is_keyword, is_line_octet, is_message_id, is_newsgroup_name, is_number}
use Rattle.model_rfc.specs.Commands.{Asked, is_multi_line, is_one_of}
use Rattle.model_rfc.specs.Contents.{content_of}

-- ---- the initial line

-- the arguments that a code has (9.4.2)
abbrev pub arguments_of : ℕ → List (Octets → Bool)
arguments_of code =
    if code == 111 then has_digits 14 ∷ []  -- yyyymmddhhmmss (7.1.2)
    else if code == 211 then is_number ∷ is_number ∷ is_number ∷ is_newsgroup_name ∷ []
    else if is_one_of code (220 ∷ 221 ∷ 222 ∷ 223 ∷ []) then is_number ∷ is_message_id ∷ []
    else if code == 401 then is_keyword ∷ []
    else []

-- 3DIGIT
abbrev pub three_digits : ℕ → Octets
three_digits code = (48 + code / 100) ∷ (48 + code / 10 % 10) ∷ (48 + code % 10) ∷ []

-- without its CRLF: the code, its arguments, and perhaps SP and a comment; at most 512 octets with CRLF (3.1, 3.2, 9.4.1)
pub record IsInitialLine (code : ℕ) (first : Octets) : Type 0 where
  pub range : (100 ≤ code) × (code < 600)
  pub arguments : List Octets
  pub comment : Octets
  pub first_is : first ≡ join_with_byte 32 (three_digits code ∷ arguments) ++ comment
  pub are_arguments : are (arguments_of code) arguments ≡ true
  pub commented : list_all (λ x. x == 32) (take 1 comment) ≡ true
  pub clean : list_all is_line_octet first ≡ true
  pub short : length first ≤ 510

-- ---- a block

-- a line that begins with a dot gets another one before it (3.1.1)
abbrev pub doubled : Octets → Octets
doubled [] = []
doubled (x ∷ rest) = if x == 46 then 46 ∷ x ∷ rest else x ∷ rest

-- lines, and the line of one dot that ends them (3.1.1)
abbrev pub sent : List Octets → Octets
sent lines = flat_map (λ line. doubled line ++ crlf) lines ++ (46 ∷ crlf)

-- a block of lines with this content, none of which has NUL, CR or LF (3.1.1)
pub record IsBlock (content : List Octets → Bool) (octets : Octets) : Type 0 where
  pub lines : List Octets
  pub octets_are : octets ≡ sent lines
  pub clean : list_all (list_all is_line_octet) lines ≡ true
  pub has : content lines ≡ true

-- ---- a response

-- one of the codes that may be answered, its line, and just where the command and the code have one, a block (3.2, appendix C)
pub record IsResponse (asked : Asked) (octets : Octets) : Type 0 where
  pub code : ℕ
  pub first : Octets
  pub rest : Octets
  pub octets_are : octets ≡ first ++ crlf ++ rest
  pub may : is_one_of code (asked.row.single ++ asked.row.multi) ≡ true
  pub initial : IsInitialLine code first
  pub alone : is_multi_line asked.row code ≡ false → rest ≡ []
  pub block : is_multi_line asked.row code ≡ true → IsBlock (content_of asked.listing code) rest
