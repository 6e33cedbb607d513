-- The lines of a stream of octets, as a reader with bounded memory finds them.
use Rattle.std.specs.Prelude.{List, ◌≡◌, ◌≢◌, ℕ, ◌≤◌, ◌<◌, ◌==◌, if◌then◌else◌, [], ◌∷◌, length, Option, Some}
use Rattle.std.specs.Io.BufRead.{drop_through}
use Rattle.server_operator_lines.specs.declared.line_reader.Next.{Next}
use Rattle.server_operator_lines.specs.declared.line_reader.Next.TheVariants.{Line, TooLong, End}

-- the octets before the first LF, or all octets if there is none
abbrev pub line_of : List ℕ → List ℕ
line_of [] = []
line_of (octet ∷ more) = if octet == 10 then [] else octet ∷ line_of more

-- what a reader of these octets found, what it keeps of the line, and what it leaves: the octets after the first LF
abbrev pub Reads : List ℕ → Next → List ℕ → Option (List ℕ) → Type 0
Reads octets Line kept left = (octets ≢ []) × (kept ≡ line_of octets) × (length kept ≤ 1024) × (left ≡ Some (drop_through 10 octets))
Reads octets TooLong kept left = (1024 < length (line_of octets)) × (left ≡ Some (drop_through 10 octets))
Reads octets End kept left = octets ≡ []
