-- The operator's lines that ask for expiries by age.
use Rattle.std.specs.Prelude.{◌≡◌, ℕ, Bool, true, false, if◌then◌else◌, ◌++◌, Option, Some, None, codes, option_map, unwrap_or}
use Rattle.model.specs.Stream.{Octets}
use Rattle.model.specs.Names.{is_wildmat}
use Rattle.program_script.specs.Words.{days_of, split_word}
use Rattle.server_operator_lines.specs.declared.ages.AgeRequest.{AgeRequest}

-- DAYS and a wildmat, or DAYS alone: then all groups are meant
abbrev pub parts_of : Octets → Octets × Octets
parts_of words = unwrap_or (split_word words) (words, codes "*")

-- the days and the wildmat, if the words follow their grammar
abbrev pub ages_of : Octets → Option (ℕ × Octets)
ages_of words = checked (parts_of words) where
  checked : Octets × Octets → Option (ℕ × Octets)
  checked parts = if is_wildmat parts.1 then option_map (λ days. (days, parts.1)) (days_of parts.0) else None

-- the first word of a line, and the SP behind it
abbrev pub begins : Bool → Octets
begins false = codes "expire-older "
begins true = codes "list-older "

-- a line asks for this
abbrev pub IsAgesLine : Octets → AgeRequest → Type 0
IsAgesLine line request =
    (words : Octets) × (line ≡ begins request.is_dry ++ words) × (ages_of words ≡ Some (request.days, request.wildmat))

-- a line asks for no expiry by age
abbrev pub AsksNoAges : Octets → Type 0
AsksNoAges line = ((words : Octets) → line ≡ begins false ++ words → ages_of words ≡ None)
    × ((words : Octets) → line ≡ begins true ++ words → ages_of words ≡ None)
