-- What was done about the old articles of a group.
use Rattle.std.specs.Prelude.{◌≡◌, ℕ, ◌-◌, ◌*◌, Bool, true, false, Result, Ok, IfErr}
use Rattle.kernel_expiring.specs.Treating.{Treats}
use Rattle.kernel_expiring.specs.declared.AgedArticles.{AgedArticles}
use Rattle.kernel_expiring.specs.declared.AgedGroup.{AgedGroup}
use Rattle.model.specs.Stream.{Octets}
use Rattle.server_mark.specs.Seats.{SeatView}
use Rattle.server_operator.specs.Told.{HasSeenStop}
use Rattle.server_operator.specs.declared.line_answer.Refused.{Refused}
use Rattle.server_operator.specs.declared.line_answer.Refused.TheVariants.{Fault}
use Rattle.server_operator.specs.declared.line_answer.Told.{Told as Answered}
use Rattle.server_operator.specs.declared.line_answer.Told.TheVariants.{Articles}
use Rattle.server_operator.specs.declared.treated.Made.{Made}
use Rattle.server_operator.specs.declared.treated.Made.TheVariants as made
use Rattle.server_operator.specs.declared.treated.Treated.{Treated}
use Rattle.server_operator.specs.declared.treated.Treated.TheVariants.{TakenOut, Told}
use Rattle.server_operator_lines.specs.declared.line_changes.Change.{Change}
use Rattle.server_operator_lines.specs.declared.line_changes.Change.TheVariants.{Group, Expiry}

-- the change is the one that a line asks for
abbrev pub IsMadeOf : Change → Made → Type 0
IsMadeOf (Group request) (made.Group admitted) = admitted.group.now ≡ request
IsMadeOf (Group request) (made.Expiry expired) = ⊥
IsMadeOf (Expiry name number) (made.Group admitted) = ⊥
IsMadeOf (Expiry name number) (made.Expiry expired) = (expired.name.now ≡ name) × (expired.number ≡ number)

abbrev pub serial_of : Made → ℕ
serial_of (made.Group admitted) = admitted.serial
serial_of (made.Expiry expired) = expired.serial

-- exactly those up to this number are taken out of the group, or in a dry run none
abbrev pub IsTreatedAs : Octets → ℕ → Bool → Treated → Type 0
IsTreatedAs name number is_dry (TakenOut expired) = (is_dry ≡ false) × (expired.name.now ≡ name) × (expired.number ≡ number)
IsTreatedAs name number is_dry (Told said last) = (is_dry ≡ true) × (said ≡ number)

abbrev pub number_of : Treated → ℕ
number_of (TakenOut expired) = expired.number
number_of (Told number last) = number

-- a treatment keeps the seat at its mark. `Fault` is answered only if the flusher was seen to have stopped
abbrev pub KeepsMark : SeatView → SeatView → AgedArticles → Result Unit Refused → Type 0
KeepsMark old new aged result = (new.mark ≡ old.mark) × IfErr result (λ error. error ≡ Fault → HasSeenStop new)

-- what is older than so many days at one moment was found group by group, from the first to the last one, and treated. What is told at
-- the end is how many articles these were
pub record HasGoneOver (found : ℕ → ℕ → AgedGroup → Type 0) (days : ℕ) (old new : SeatView) (told : Answered) : Type 0 where
  pub now : ℕ
  pub articles : ℕ
  pub treats : Treats (λ seat place group. found place (now - 86400 * days) group) KeepsMark old new (Ok articles)
  pub says : told ≡ Articles articles
