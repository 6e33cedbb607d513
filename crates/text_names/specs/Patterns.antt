-- What a pattern of a wildmat decides about a name.
use Rattle.std.specs.Prelude.{ℕ, Bool, true, false, ◌||◌, ◌==◌, if◌then◌else◌, List, [], ◌∷◌, map, Option, Some, None}
use Rattle.model.specs.Names.{takes, item_of}

-- whether an item for one octet matches it: ? matches each, any other item only itself (RFC 3977, section 4.2)
abbrev pub fits : ℕ → ℕ → Bool
fits item octet = item == 63 || octet == item

-- yes if the pattern matches the name, no if it then begins with !, and nothing if it does not match
abbrev pub verdict_of : List ℕ → List ℕ → Option Bool
verdict_of name [] = if takes [] name then Some true else None
verdict_of name (x ∷ items) =
    if x == 33 then (if takes (map item_of items) name then Some false else None)
    else (if takes (map item_of (x ∷ items)) name then Some true else None)
