-- What is shown is plain, whatever the octets.
use Rattle.std.proofs.Common.{◌≡◌, ℕ, ◌≤◌, List, [], ◌∷◌, ◌++◌, map, All, arith}
use Rattle.std.proofs.lemmas.Bool.Decides.{nat_tests}
use Rattle.std.proofs.lemmas.List.Elements.{All-nil, All-cons}
use Rattle.server_log_lines.specs.Line.{IsPlain, shown}

shown_is_plain : (octet : ℕ) → IsPlain (shown octet)
shown_is_plain octet = (grind (arith, nat_tests), grind (arith, nat_tests))

pub all_are_plain : (octets : List ℕ) → All IsPlain (map shown octets)
all_are_plain [] = All-nil IsPlain
all_are_plain (octet ∷ octets) =
    All-cons IsPlain (shown octet) (map shown octets) (shown_is_plain octet) (all_are_plain octets)
