-- A session after its reply.
use Rattle.std.proofs.Common.{◌≡◌, ℕ, List, [], ◌∷◌, ◌++◌, refl, ◌∙◌}
use Rattle.std.specs.Prelude.{max, is_none}
use Rattle.model.specs.Stream.{Octets}
use Rattle.model.specs.Spool.{Spool}
use Rattle.model.specs.Answer.{answer}
use Rattle.model.specs.Reads.{reads}
use Rattle.model.specs.Service.{mode_of}
use Rattle.model.specs.declared.message.Message.{Message}
use Rattle.model.specs.declared.message.Mark.{Mark}
use Rattle.model.specs.declared.message.Mark.TheVariants.{Stopped}
use Rattle.model.specs.declared.session.Session.{Session}
use Rattle.std.proofs.lemmas.List.{map-append}
use Rattle.std.proofs.lemmas.List.Elements.{All-push}
use Rattle.kernel_outbox.specs.Lines.{HeldReply, IsKept, Reply, last_depends, output_of, outputs_of, whole}
use Rattle.kernel_outbox.specs.Queue.{HeldOutput}
use Rattle.kernel_outbox.specs.declared.made_lines.Lines.{Lines}
use Rattle.kernel_outbox.proofs.LinesLaws.{last_depends_is}
use Rattle.session_replies.specs.Answered.{Answered, reply_of}
use Rattle.kernel_seats.specs.Seats.{answered_by}
use Rattle.kernel_seats.specs.Lined.{LinedSeat, SeatIsLined, answered_with, seen}

-- what the answer reads where the kernel is halted
pub stopped_reads : (host : Octets) (S : Spool) (x : Session) (m : Message) (t : ℕ) → reads host S x m t Stopped ≡ 0
unfolding reads
stopped_reads host S x m t = refl

-- ---- one reply more

-- with its lines made it is the answer's
pub seen_answered : (made : Lines → Octets) (reply : Reply) (host : Octets) (S : Spool) (m : Message) (t : ℕ) (mark : Mark)
    (before : LinedSeat)
    → whole made reply ≡ (answer host S before.session m t mark).reply
    → seen made (answered_with reply host S m t mark before) ≡ answered_by host S m t mark (seen made before)
seen_answered made reply host S m t mark before is =
    let its : HeldReply = record {
      reply = reply;
      dependency = max (last_depends before.given before.held) (reads host S before.session m t mark);
      ends = is_none (mode_of (answer host S before.session m t mark).next.awaits);
    } in
    λ i. record {
      number = before.number;
      session = (answer host S before.session m t mark).next;
      given = before.given;
      held = (map-append (output_of made) before.held (its ∷ []) ∙ (λ j. let h : HeldOutput = record {
        octets = is j;
        dependency = max (last_depends_is made before.given before.held j) (reads host S before.session m t mark);
        ends = its.ends;
      } in outputs_of made before.held ++ h ∷ [])) i;
    }

pub lined_answered : (keeps : Lines → Type 0) (reply : Reply) (host : Octets) (S : Spool) (m : Message) (t : ℕ) (mark : Mark)
    (before : LinedSeat)
    → IsKept keeps reply → SeatIsLined keeps before → SeatIsLined keeps (answered_with reply host S m t mark before)
lined_answered keeps reply host S m t mark before kept lined =
    All-push (λ (h : HeldReply). IsKept keeps h.reply) before.held _ lined kept

-- a session that goes on as it was answered, over a queue in which room was made first
pub adopted : (host : Octets) (S : Spool) (m : Message) (t : ℕ) (mark : Mark) (before after : LinedSeat) (a : Answered) {given : ℕ}
    {held : List HeldReply}
    → after.number ≡ before.number → after.session ≡ a.answer.next → given ≡ before.given → held ≡ before.held → after.given ≡ given
    → after.held ≡ held ++ record {
      reply = reply_of a;
      dependency = max (last_depends given held) a.reads;
      ends = is_none (mode_of a.answer.next.awaits);
    } ∷ []
    → a.answer.next ≡ (answer host S before.session m t mark).next
    → a.reads ≡ reads host S before.session m t mark
    → after ≡ answered_with (reply_of a) host S m t mark before
adopted host S m t mark before after a number session was_given was_held now_given now_held next depends =
    λ i. record {
      number = number i;
      session = (session ∙ next) i;
      given = (now_given ∙ was_given) i;
      held = (now_held ∙ (λ j. let h : HeldReply = record {
        reply = reply_of a;
        dependency = max (last_depends (was_given j) (was_held j)) (depends j);
        ends = is_none (mode_of (next j).awaits);
      } in was_held j ++ h ∷ [])) i;
    }
