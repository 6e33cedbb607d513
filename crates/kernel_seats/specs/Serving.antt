-- What serving a message does to the session, and to the spool that it is served over.
use Rattle.std.specs.Prelude.{◌≡◌, ℕ, Bool, is_some}
use Rattle.model.specs.Answer.{answer}
use Rattle.model.specs.Service.{mode_of}
use Rattle.model.specs.Spool.{Spool}
use Rattle.model.specs.Stream.{Octets}
use Rattle.model.specs.declared.change.Change.{Change}
use Rattle.model.specs.declared.message.Message.{Message}
use Rattle.session.specs.Served as served
use Rattle.kernel_seats.specs.Seats.{Seat, answered_by}
use Rattle.kernel_seats.specs.declared.Outcome.{Outcome}

-- the session was served over a spool of this host with these changes: it has one more reply
pub record SeatServed (host : Octets) (S : Spool) (lacks : Change → Bool) (adds : Change → Type 0) (stays : Type 0) (before after : Seat)
    (m : Message) (t : ℕ) (outcome : Outcome) : Type 0 where
  pub mark : outcome.mark ≡ served.mark_in host S lacks before.session m t
  pub seat : after ≡ answered_by host S m t outcome.mark before
  pub spool : served.Grows adds stays (answer host S before.session m t outcome.mark).change
  pub refusal : outcome.refusal ≡ served.refusal_in host S before.session m outcome.mark
  pub accepted : outcome.has_accepted ≡ is_some (answer host S before.session m t outcome.mark).change
  pub next : outcome.next ≡ mode_of after.session.awaits
