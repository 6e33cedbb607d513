-- How octets are printed (this project's rule).
use Rattle.std.specs.Prelude.{ℕ, ◌&&◌, ◌==◌, nat_le, if◌then◌else◌, [], ◌∷◌}
use Rattle.std.specs.List.{flat_map}
use Rattle.hex.specs.Hex.{encode_lower}
use Rattle.model.specs.Stream.{Octets}

-- an octet as \x and two hexadecimal digits in lower case
abbrev pub hex_escape : ℕ → Octets
hex_escape x = 92 ∷ 120 ∷ encode_lower (x ∷ [])

-- CR is \r, LF is \n, a backslash is \\, other octets outside 32 to 126 are \xHH
unfoldable pub escape : ℕ → Octets
escape x =
    if x == 13 then 92 ∷ 114 ∷ []
    else (if x == 10 then 92 ∷ 110 ∷ []
    else (if x == 92 then 92 ∷ 92 ∷ []
    else (if nat_le 32 x && nat_le x 126 then x ∷ [] else hex_escape x)))

abbrev pub escaped : Octets → Octets
escaped octets = flat_map escape octets
