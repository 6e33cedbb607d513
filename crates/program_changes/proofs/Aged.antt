-- An expiry by age goes on, group by group.
use Rattle.std.proofs.Common.{◌≡◌, ℕ, List, [], ◌∷◌, sym, ◌∙◌, refl, ap, subst}
use Rattle.std.specs.Prelude.{Result, Ok, Err, OnOk}
use Rattle.disk.specs.Device.{Device}
use Rattle.kernel_expiring.specs.Treating.{HasTreated, Treats}
use Rattle.kernel_expiring.specs.declared.AgedArticles.{AgedArticles}
use Rattle.kernel_expiring.specs.declared.AgedGroup.{AgedGroup}
use Rattle.kernel_expiring.specs.declared.AgedGroup.TheVariants.{Missing, Spared, Aged}
use Rattle.spool.specs.View.{SpoolView}
use Rattle.journal.specs.Journal.{JournalView}
use Rattle.volume_store.specs.Saved.{GoesOn, StoreView}
use Rattle.volume_store.proofs.GoingOn.{goes_then, stays}
use Rattle.program_changes.specs.Ages.{Expires}

module _ {D : Type 0} (E : Type 0) (device : D → Device) (found : StoreView D → ℕ → AgedGroup → Type 0) (old : StoreView D) where
  same_goes : (new : StoreView D) → new ≡ old → GoesOn device old new
  same_goes new same =
      stays device old new (ap (λ (s : StoreView D). s.journal) same) (ap (λ (s : StoreView D). s.durable) same)
      (ap (λ (s : StoreView D). s.spool) same)

  went : (groups : List AgedGroup) (new : StoreView D) → HasTreated {V = StoreView D} {E = E} found (Expires device) old groups new
      → GoesOn device old new
  went [] new same = same_goes new same
  went (Missing ∷ groups) new none = absurd none
  went (Spared ∷ groups) new (so_far, _) = went groups new so_far
  went (Aged aged ∷ groups) new (now, so_far, _, does) = goes_then device old now new (went groups now so_far) does.goes_on

  pub goes : (new : StoreView D) (result : Result ℕ E) → Treats found (Expires device) old new result → GoesOn device old new
  goes new (Ok articles) treats =
      subst (GoesOn device old) (sym treats.ends.0) (went treats.groups treats.last treats.treats)
  goes new (Err e) treats =
      goes_then device old treats.last new (went treats.groups treats.last treats.treats) treats.ends.2.goes_on

module _ {V : Type 0} (E : Type 0) (found : V → ℕ → AgedGroup → Type 0) (old : V) where
  stayed : (groups : List AgedGroup) (new : V) → HasTreated {V = V} {E = E} found (λ was is _ _. is ≡ was) old groups new → new ≡ old
  stayed [] new same = same
  stayed (Missing ∷ groups) new none = absurd none
  stayed (Spared ∷ groups) new (so_far, _) = stayed groups new so_far
  stayed (Aged aged ∷ groups) new (now, so_far, _, same) = same ∙ stayed groups now so_far

  -- a dry run leaves all as it was
  pub stays_so : (new : V) (result : Result ℕ E) → Treats found (λ was is _ _. is ≡ was) old new result → new ≡ old
  stays_so new (Ok articles) treats = treats.ends.0 ∙ stayed treats.groups treats.last treats.treats
  stays_so new (Err e) treats = treats.ends.2 ∙ stayed treats.groups treats.last treats.treats
