-- What the rules take out of a group.
use Rattle.std.specs.Prelude.{◌≡◌, ◌<◌, ◌≤◌, ℕ, ◌-◌, ◌*◌, false, if◌then◌else◌, List, [], ◌∷◌, length}
use Rattle.std.specs.Prelude.{Option, Some, None, option_and_then, option_map, slice_get}
use Rattle.kernel_expiring.specs.Ages.{AreAged, is_old}
use Rattle.kernel_expiring.specs.declared.AgedGroup.{AgedGroup}
use Rattle.kernel_expiring.specs.declared.AgedGroup.TheVariants as group
use Rattle.model.specs.Names.{wildmat_matches}
use Rattle.model.specs.Spool.{NewsGroup, Spool, groups, low}
use Rattle.model.specs.Stream.{Octets}
use Rattle.program_rules.specs.declared.reading.Rule.{Rule}

-- the first rule that matches the name
abbrev pub first_rule : List Rule → Octets → Option Rule
first_rule [] name = None
first_rule (rule ∷ more) name = if wildmat_matches rule.wildmat name then Some rule else first_rule more name

-- its wildmat and its days, if it has days
abbrev pub days_of_rule : Rule → Option (Octets × ℕ)
days_of_rule rule = option_map (λ days. (rule.wildmat, days)) rule.days

-- the wildmat and the days that decide about a group of this name. There are none where no rule matches, or the first one that does says
-- that articles stay for good
abbrev pub days_for : List Rule → Octets → Option (Octets × ℕ)
days_for rules name = option_and_then days_of_rule (first_rule rules name)

-- the moment so many days before
abbrev pub before : ℕ → ℕ → ℕ
before now days = now - 86400 * days

-- the group at this place: there is none; no rule gives it days, or its first article isn't older than these; or what is older at its front
-- goes
abbrev pub IsRuledGroup : Spool → ℕ → List Rule → ℕ → AgedGroup → Type 0
IsRuledGroup S place rules now group.Missing = length (groups S) ≤ place
IsRuledGroup S place rules now group.Spared = (place < length (groups S)) × ((g : NewsGroup) → slice_get (groups S) place ≡ Some g
    → (w : Octets) (days : ℕ) → days_for rules g.name ≡ Some (w, days) → is_old S g.name (before now days) (low S g.name) ≡ false)
IsRuledGroup S place rules now (group.Aged aged) = (place < length (groups S)) × ((g : NewsGroup) → slice_get (groups S) place ≡ Some g
    → (w : Octets) × (days : ℕ) × (days_for rules g.name ≡ Some (w, days)) × AreAged S g w (before now days) aged)
