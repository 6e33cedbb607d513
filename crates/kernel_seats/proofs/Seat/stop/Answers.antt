use Rattle.std.proofs.Common.{◌≡◌, ap, refl, sym, ◌∙◌}
use Rattle.model.specs.declared.message.Mark.TheVariants.{Stopped}
use Rattle.model.specs.declared.session.Answer.{Answer}
use Rattle.model.specs.Answer.{answer}
use Rattle.model.proofs.ServiceLaws.{news_stopped}
use Rattle.kernel_outbox.specs.Lines.{Reply, plain}
use Rattle.session_replies.specs.Answered.{Answered, reply_of}
use Rattle.kernel_seats.specs.Lined.{LinedSeat, answered_with}
use Rattle.kernel_seats.proofs.SeatLaws.{adopted, stopped_reads}
use Rattle.kernel_seats.proofs.Seat.stop.Goals as goal

pub returns-clause-ok : goal.returns-clause-ok
returns-clause-ok c = λ host S m t.
    let before : LinedSeat = record {
      number = c.self.inside.number;
      session = c.self.inside.session;
      given = c.self.inside.queue.given;
      held = c.self.inside.queue.held;
    } in
    let after : LinedSeat = record {
      number = c.self.inside.number;
      session = c.adopt.new.session;
      given = c.adopt.new.queue.given;
      held = c.adopt.new.queue.held;
    } in
    let told : c.in_ok-answered.answered.answer ≡ answer host S before.session m t Stopped =
    ap (λ (a : Answered). a.answer) c.in_ok-answered.ensures ∙ sym (news_stopped host S before.session m t) in
    let reply : reply_of c.in_ok-answered.answered ≡ plain (answer host S before.session m t Stopped).reply =
    ap reply_of c.in_ok-answered.ensures ∙ ap (λ (a : Answer). plain a.reply) (sym (news_stopped host S before.session m t)) in
    adopted host S m t Stopped before after c.in_ok-answered.answered refl c.adopt.ensures.session c.reserve.ensures.given
    c.reserve.ensures.held c.adopt.ensures.given c.adopt.ensures.held (ap (λ (a : Answer). a.next) told)
    (ap (λ (a : Answered). a.reads) c.in_ok-answered.ensures ∙ sym (stopped_reads host S before.session m t))
    ∙ ap (λ (r : Reply). answered_with r host S m t Stopped before) reply
    ∙ ap (λ (seat : LinedSeat). answered_with (plain (answer host S seat.session m t Stopped).reply) host S m t Stopped seat)
    c.self.view_is
