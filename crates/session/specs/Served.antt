-- What serving a message answers, and what it does to the spool.
use Rattle.std.specs.Prelude.{◌≡◌, ℕ, Bool, true, false, Option, Some, None, Result, MatchResult, if◌then◌else◌, is_some}
use Rattle.model.specs.Stream.{Octets}
use Rattle.model.specs.Answer.{answer, is_long}
use Rattle.model.specs.Reads.{reads}
use Rattle.model.specs.Spool.{Spool}
use Rattle.model.specs.declared.change.Change.{Change}
use Rattle.model.specs.declared.message.Message.{Message}
use Rattle.model.specs.declared.message.Mark.{Mark}
use Rattle.model.specs.declared.message.Mark.TheVariants as mark
use Rattle.model.specs.declared.session.Session.{Session}
use Rattle.kernel_outbox.specs.Lines.{IsKept, whole}
use Rattle.kernel_outbox.specs.declared.made_lines.Lines.{Lines}
use Rattle.session_replies.specs.Answered.{reply_of}
use Rattle.session_lookups.specs.declared.change_spool.FilingError.{FilingError}
use Rattle.session_lookups.specs.declared.change_spool.FilingError.TheVariants as error
use Rattle.session_posting.specs.Refusals.{awaited_refusal}
use Rattle.session_posting.specs.declared.refusals.Refusal.{Refusal}
use Rattle.session_posting.specs.declared.refusals.Refusal.TheVariants as refusal
use Rattle.session.specs.declared.Served.{Served}

-- whether there is no room for the change of an answer, if it makes one
abbrev pub lacks_room_for : (Change → Bool) → Option Change → Bool
lacks_room_for lacks None = false
lacks_room_for lacks (Some c) = lacks c

-- the mark of a message that is served
abbrev pub mark_in : Octets → Spool → (Change → Bool) → Session → Message → ℕ → Mark
mark_in host S lacks x m t =
    if is_long host S x m then mark.Long
    else if lacks_room_for lacks (answer host S x m t mark.Served).change then mark.Full
    else mark.Served

-- why the article of a message isn't filed, by the message's mark
abbrev pub refusal_in : Octets → Spool → Session → Message → Mark → Option Refusal
refusal_in host S x m mark.Served = awaited_refusal host S x.awaits m
refusal_in host S x m mark.Long = awaited_refusal host S x.awaits m
refusal_in host S x m mark.Full = Some refusal.Full
refusal_in host S x m mark.Stopped = Some refusal.Stopped

-- the change of an answer was filed, or there is none and the spool is as it was
abbrev pub Grows : (Change → Type 0) → Type 0 → Option Change → Type 0
Grows adds stays None = stays
Grows adds stays (Some c) = adds c

-- a change was filed, or there is no room for it, or memory was refused; a refusal leaves the spool as it was
abbrev pub IsFiled : (Change → Bool) → (Change → Type 0) → Type 0 → Change → Result (Unit {0}) FilingError → Type 0
IsFiled lacks adds stays c result = MatchResult result (λ done. (lacks c ≡ false) × adds c)
    (λ e. (e ≡ error.Full → lacks c ≡ true) × stays)

-- The reply is the answer's, with its lines made by the spool as it is afterwards, which has them.
pub record IsServed (host : Octets) (S : Spool) (made : Lines → Octets) (keeps : Lines → Type 0) (lacks : Change → Bool)
    (adds : Change → Type 0) (stays : Type 0) (x : Session) (m : Message) (t : ℕ) (served : Served) : Type 0 where
  pub mark : served.mark ≡ mark_in host S lacks x m t
  pub reply : whole made (reply_of served.answered) ≡ (answer host S x m t served.mark).reply
  pub kept : IsKept keeps (reply_of served.answered)
  pub next : served.answered.answer.next ≡ (answer host S x m t served.mark).next
  pub reads : served.answered.reads ≡ reads host S x m t served.mark
  pub refusal : served.refusal ≡ refusal_in host S x m served.mark
  pub accepted : served.has_accepted ≡ is_some (answer host S x m t served.mark).change
  pub spool : Grows adds stays (answer host S x m t served.mark).change
