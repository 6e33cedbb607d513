-- What the lines of a file of rules mean (docs/FORMATS.md).
use Rattle.std.specs.Prelude.{◌≡◌, ◌≤◌, ℕ, ◌+◌, ◌-◌, ◌==◌, ◌||◌, Bool, false, if◌then◌else◌, List, [], ◌∷◌, length, take}
use Rattle.std.specs.Prelude.{Option, Some, None, option_map, option_and_then, is_some, true, slice_get, bytes_eq, codes}
use Rattle.model.specs.Names.{begins, is_wildmat}
use Rattle.model.specs.Stream.{Octets}
use Rattle.program_script.specs.Words.{days_of, is_blank, split_at}
use Rattle.program_rules.specs.declared.reading.Rule.{Rule}
use Rattle.program_rules.specs.declared.reading.RulesError.{RulesError}
use Rattle.program_rules.specs.declared.reading.RulesError.TheVariants.{Bad, Memory}

-- the wildmat of a rule, and its days; none where articles stay for good
abbrev pub said : Rule → Octets × Option ℕ
said rule = (rule.wildmat, rule.days)

-- a number of days, or `never`
unfoldable pub age_of : Octets → Option (Option ℕ)
age_of word = if bytes_eq word (codes "never") then Some None else option_map (λ days. Some days) (days_of word)

-- WILDMAT:DAYS or WILDMAT:never, with the first colon
unfoldable pub rule_of : Octets → Option (Octets × Option ℕ)
rule_of line =
    option_and_then (λ parts. option_and_then (λ days. if is_wildmat parts.0 then Some (parts.0, days) else None) (age_of parts.1))
    (split_at 58 line)

-- a blank line, or a comment
abbrev pub is_skipped : Octets → Bool
is_skipped line = is_blank line || begins (λ x. x == 35) line

-- the rules of the lines, in their order, if each other line says nothing
abbrev pub rules_of : List Octets → Option (List (Octets × Option ℕ))
rules_of [] = Some []
rules_of (line ∷ more) =
    if is_skipped line then rules_of more
    else option_and_then (λ rule. option_map (λ rules. rule ∷ rules) (rules_of more)) (rule_of line)

-- the line with this number is no rule, and those before it have rules or say nothing
abbrev pub IsFirstBad : List Octets → RulesError → Type 0
IsFirstBad lines Memory = Unit {0}
IsFirstBad lines (Bad number) =
    (line : Octets) × (1 ≤ number) × (slice_get lines (number - 1) ≡ Some line) × (is_skipped line ≡ false) × (rule_of line ≡ None)
    × (is_some (rules_of (take (number - 1) lines)) ≡ true)
