-- Line ends: CRLF in an article as it is stored, LF in a batch.
use Rattle.std.specs.Prelude.{◌≡◌, ℕ, ◌==◌, ◌&&◌, not, true, if◌then◌else◌, List, [], ◌∷◌, ◌++◌, flat_map}
use Rattle.std.specs.List.{All, list_all}
use Rattle.model.specs.Stream.{Octets, line}
use Rattle.model.specs.Names.{begins}

-- each CRLF becomes LF
unfoldable pub with_lf : Octets → Octets
with_lf [] = []
with_lf (x ∷ rest) = (if x == 13 && begins (λ y. y == 10) rest then [] else x ∷ []) ++ with_lf rest

-- an octet after another one: an LF that follows no CR becomes CRLF
abbrev pub with_cr : ℕ → ℕ → Octets
with_cr before x = if x == 10 && not (before == 13) then 13 ∷ x ∷ [] else x ∷ []

-- each LF that follows no CR becomes CRLF; the octet `before` comes before the text
unfoldable pub with_crlf_after : ℕ → Octets → Octets
with_crlf_after before [] = []
with_crlf_after before (x ∷ rest) = with_cr before x ++ with_crlf_after x rest

abbrev pub with_crlf : Octets → Octets
with_crlf text = with_crlf_after 0 text

-- the text of a line, without CR or LF
abbrev pub IsLine : Octets → Type 0
IsLine text = list_all (λ x. not (x == 10) && not (x == 13)) text ≡ true

-- the line that ends in LF only
abbrev pub lf_line : Octets → Octets
lf_line text = text ++ 10 ∷ []

-- lines that end in CRLF become the same lines that end in LF
abbrev pub LinesGetLf : Type 0
LinesGetLf = (lines : List Octets) → All IsLine lines → with_lf (flat_map line lines) ≡ flat_map lf_line lines

-- lines that end in LF become the same lines that end in CRLF
abbrev pub LinesGetCrlf : Type 0
LinesGetCrlf = (lines : List Octets) → All IsLine lines → with_crlf (flat_map lf_line lines) ≡ flat_map line lines

-- lines that already end in CRLF stay as they are
abbrev pub CrlfStays : Type 0
CrlfStays = (lines : List Octets) → All IsLine lines → with_crlf (flat_map line lines) ≡ flat_map line lines
