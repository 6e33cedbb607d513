-- Lines that begin with `drop` and SP, and end no session.
use Rattle.std.proofs.Common.{◌≡◌, ℕ, List, Option, Some, None, IfNone, drop, ◌∙◌, ap, subst}
use Rattle.server_operator_lines.specs.Changes.{DropsNothing}
use Rattle.server_roster.specs.Chosen.{NamesNone}
use Rattle.server_roster.specs.declared.chosen.Chosen.{Chosen}

pub drops_nothing : (line word : List ℕ) (found : Option Chosen) →
    word ≡ drop 5 line → IfNone found (NamesNone word) → IfNone found (DropsNothing line)
drops_nothing line word (Some chosen) behind none = tt
drops_nothing line word None behind none = λ other same. subst NamesNone (behind ∙ ap (drop 5) same) none
