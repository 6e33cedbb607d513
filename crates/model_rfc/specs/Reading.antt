-- How a client reads responses, by the RFC alone (sections 3.1, 3.1.1, 3.2 and 3.5).
use Rattle.std.specs.Prelude.{◌≡◌, ◌<◌, ℕ, zero, suc, Bool, true, false, ◌==◌, if◌then◌else◌, List, [], ◌∷◌, ◌++◌, take, length, Option}
use Rattle.std.specs.Prelude.{Some, None}
use Rattle.std.specs.Prelude.{slice_get, option_map, option_and_then, bytes_eq}
use Rattle.std.specs.List.{concat}
use Rattle.std.specs.Str.Parse.{digits_value}
use mathlib.Core.List.{IsPrefix}
use Rattle.model.specs.Stream.{Octets}
use Rattle.model_rfc.specs.Commands.{Asked, Row, is_multi_line}

-- the next line, up to CRLF, and what follows it. After CR stands LF (3.1.1)
abbrev pub after_cr : Octets → Option (Octets × Octets)
after_cr [] = None
after_cr (y ∷ after) = if y == 10 then Some ([], after) else None

unfoldable pub read_line : Octets → Option (Octets × Octets)
read_line [] = None
read_line (x ∷ rest) = if x == 13 then after_cr rest else option_map (λ r. (x ∷ r.0, r.1)) (read_line rest)

-- a dot at the beginning of a line is taken away (3.1.1)
abbrev pub undoubled : Octets → Octets
undoubled [] = []
undoubled (x ∷ rest) = if x == 46 then rest else x ∷ rest

-- the lines of a block, up to the line of one dot, in at most so many lines (3.1.1)
unfoldable pub read_block : ℕ → Octets → Option (List Octets × Octets)
read_block zero octets = None
read_block (suc n) octets = option_and_then
    (λ r. if bytes_eq r.0 (46 ∷ []) then Some ([], r.1) else option_map (λ later. (undoubled r.0 ∷ later.0, later.1)) (read_block n r.1))
    (read_line octets)

-- what is read of a response: its initial line, and the lines of its block if it has one
pub record Response : Type 0 where
  pub first : Octets
  pub block : Option (List Octets)

-- the code that a line begins with (3.2)
abbrev pub code_of : Octets → ℕ
code_of first = digits_value 10 (take 3 first)

-- what follows the initial line: nothing, or a block
abbrev pub read_rest : Bool → Octets → Octets → Option (Response × Octets)
read_rest false first rest = Some (record { first = first; block = None }, rest)
read_rest true first rest = option_map (λ r. (record { first = first; block = Some r.0 }, r.1)) (read_block (length rest) rest)

-- the next response, to what was asked
abbrev pub read_response : Row → Octets → Option (Response × Octets)
read_response row octets = option_and_then (λ r. read_rest (is_multi_line row (code_of r.0)) r.0 r.1) (read_line octets)

-- what is read after a response, or nothing where that isn't whole
abbrev pub read_on : Octets → (Octets → List Response × Octets) → Option (Response × Octets) → List Response × Octets
read_on octets later None = ([], octets)
read_on octets later (Some r) = (r.0 ∷ (later r.1).0, (later r.1).1)

-- the whole responses to what was asked, in order (3.5), in what has come so far, and what follows them
abbrev pub read_all : List Asked → Octets → List Response × Octets
read_all [] octets = ([], octets)
read_all (asked ∷ more) octets = read_on octets (read_all more) (read_response asked.row octets)

-- some of the replies have come whole, and of the next one a part: it is read as the first responses, and that part is left
pub record IsReadSoFar (asked : List Asked) (replies : List Octets) (responses : List Response) (octets : Octets) : Type 0 where
  pub whole : ℕ
  pub part : Octets
  pub octets_are : octets ≡ concat (take whole replies) ++ part
  pub read : read_all asked octets ≡ (take whole responses, part)
  pub cut : (reply : Octets) → slice_get replies whole ≡ Some reply → (length part < length reply) × (part ≡ take (length part) reply)
  pub none : slice_get replies whole ≡ None → part ≡ []

-- A client that knows the RFC alone asked this, and these are the replies: it reads one response for each of them. Of whatever octets have
-- come so far it reads the first responses whole, and a part of the next one is left.
pub record KeepsStep (asked : List Asked) (replies : List Octets) : Type 0 where
  pub responses : List Response
  pub one_each : length responses ≡ length replies
  pub read : read_all asked (concat replies) ≡ (responses, [])
  pub read_so_far : (came : Octets) → IsPrefix came (concat replies) → IsReadSoFar asked replies responses came
