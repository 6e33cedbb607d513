-- The part of a range after the dash.
use Rattle.std.specs.Prelude.{ℕ, List, [], ◌∷◌, Option, Some, option_map}
use Rattle.model.specs.Names.{number_of, numbers_from}
use Rattle.model.specs.declared.command.Range.{Range}

-- the range from n on, up to the number after the dash, if there is one (RFC 3977, section 9.8)
abbrev pub range_from : ℕ → List ℕ → Option Range
range_from n [] = Some (numbers_from n)
range_from n (x ∷ last) = option_map (λ m. record { first = n; last = Some m }) (number_of (x ∷ last))
