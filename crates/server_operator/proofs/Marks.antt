-- An expiry by age keeps the seat at its mark.
use Rattle.std.proofs.Common.{◌≡◌, ℕ, List, [], ◌∷◌, ◌∙◌, ap}
use Rattle.std.specs.Prelude.{Result, Ok, Err}
use Rattle.kernel_expiring.specs.Treating.{HasTreated, Treats}
use Rattle.kernel_expiring.specs.declared.AgedGroup.{AgedGroup}
use Rattle.kernel_expiring.specs.declared.AgedGroup.TheVariants.{Missing, Spared, Aged}
use Rattle.server_mark.specs.Seats.{SeatView}
use Rattle.server_operator.specs.Told.{HasSeenStop}
use Rattle.server_operator.specs.Treated.{KeepsMark}
use Rattle.server_operator.specs.declared.line_answer.Refused.{Refused}
use Rattle.server_operator.specs.declared.line_answer.Refused.TheVariants.{Fault}

module _ (found : SeatView → ℕ → AgedGroup → Type 0) (old : SeatView) where
  kept : (groups : List AgedGroup) (new : SeatView) → HasTreated found KeepsMark old groups new → new.mark ≡ old.mark
  kept [] new same = ap (λ (s : SeatView). s.mark) same
  kept (Missing ∷ groups) new none = absurd none
  kept (Spared ∷ groups) new (so_far, _) = kept groups new so_far
  kept (Aged aged ∷ groups) new (now, so_far, _, does) = does.0 ∙ kept groups now so_far

  pub marks : (new : SeatView) (result : Result ℕ Refused) → Treats found KeepsMark old new result → new.mark ≡ old.mark
  marks new (Ok articles) treats = ap (λ (s : SeatView). s.mark) treats.ends.0 ∙ kept treats.groups treats.last treats.treats
  marks new (Err e) treats = treats.ends.2.0 ∙ kept treats.groups treats.last treats.treats

  pub gone : (new : SeatView) (e : Refused) → Treats found KeepsMark old new (Err e) → e ≡ Fault → HasSeenStop new
  gone new e treats = treats.ends.2.1
