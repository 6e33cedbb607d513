-- What becomes of a change that is added.
use Rattle.std.specs.Prelude.{◌≡◌, ◌⊎◌, true, false, Result, MatchResult}
use Rattle.session_lookups.specs.declared.change_spool.FilingError.{FilingError}
use Rattle.session_lookups.specs.declared.change_spool.FilingError.TheVariants.{Full, Memory}
use Rattle.model.specs.declared.change.Change.{Change}
use Rattle.spool.specs.Refusals.{is_full_for}
use Rattle.spool.specs.View.{Adds, SpoolView}

-- the change was added, for which there was room; or there is no room for it, or memory was refused, and nothing changed
abbrev pub IsAdded : {T : Type 0} → SpoolView → SpoolView → Change → Result T FilingError → Type 0
IsAdded old new c result =
    MatchResult result (λ done. (is_full_for old c ≡ false) × Adds old new c)
    (λ error. ((error ≡ Memory) ⊎ ((error ≡ Full) × (is_full_for old c ≡ true))) × (new ≡ old))
