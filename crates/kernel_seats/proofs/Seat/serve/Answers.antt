use Rattle.std.proofs.Common.{◌≡◌, ap, refl, sym, subst, ◌∙◌}
use Rattle.model.specs.Service.{mode_of}
use Rattle.model.specs.Spool.{Spool}
use Rattle.model.specs.Stream.{Octets}
use Rattle.model.specs.declared.session.Session.{Session}
use Rattle.session_replies.specs.Answered.{reply_of}
use Rattle.kernel_seats.specs.Lined.{LinedSeat, SeatIsLined, answered_with, seen}
use Rattle.kernel_seats.specs.Serving.{SeatServed}
use Rattle.kernel_seats.proofs.SeatLaws.{adopted, lined_answered, seen_answered}
use Rattle.kernel_seats.proofs.Seat.serve.Goals as goal

pub returns-clause-ok : goal.returns-clause-ok
returns-clause-ok g c =
    let s = c.args.spool.now in
    let host : Octets = g.S.LookUps.host_of s in
    let S : Spool = g.S.LookUps.changes s in
    let made = g.S.Source.octets_of c.serve.new.spool in
    let m = c.args.received in
    let t = c.args.moment in
    let before : LinedSeat = record {
      number = c.self.inside.number;
      session = c.self.inside.session;
      given = c.self.inside.queue.given;
      held = c.self.inside.queue.held;
    } in
    let served = c.in_ok-answered.field-0 in
    let said = c.in_ok-answered.ensures.ok in
    let after : LinedSeat = record {
      number = c.self.inside.number;
      session = c.adopt-next.new.session;
      given = c.adopt-next.new.queue.given;
      held = c.adopt-next.new.queue.held;
    } in
    let now : after ≡ answered_with (reply_of served.answered) host S m t served.mark before =
    adopted host S m t served.mark before after served.answered refl c.adopt-next.ensures.session c.reserve.ensures.given
    c.reserve.ensures.held c.adopt-next.ensures.given c.adopt-next.ensures.held said.next said.reads in
    subst (λ (was : LinedSeat). SeatServed host S (g.S.ChangeSpool.lacks_room s) (g.S.ChangeSpool.adds s c.serve.new.spool)
    (c.serve.new.spool ≡ s) (seen made was) (seen made after) m t
    (record { next = c.adopt-next.result; mark = served.mark; refusal = served.refusal; has_accepted = served.has_accepted }))
    c.self.view_is
    (record {
      mark = said.mark;
      seat = ap (seen made) now ∙ seen_answered made (reply_of served.answered) host S m t served.mark before said.reply;
      spool = said.spool;
      refusal = said.refusal;
      accepted = said.accepted;
      next = c.adopt-next.ensures.mode ∙ ap (λ (x : Session). mode_of x.awaits) (sym c.adopt-next.ensures.session);
    })

pub returns-clause-lined : goal.returns-clause-lined
returns-clause-lined g c =
    let s = c.args.spool.now in
    let host : Octets = g.S.LookUps.host_of s in
    let S : Spool = g.S.LookUps.changes s in
    let keeps = g.S.Source.keeps c.serve.new.spool in
    let before : LinedSeat = record {
      number = c.self.inside.number;
      session = c.self.inside.session;
      given = c.self.inside.queue.given;
      held = c.self.inside.queue.held;
    } in
    let served = c.in_ok-answered.field-0 in
    let said = c.in_ok-answered.ensures.ok in
    let after : LinedSeat = record {
      number = c.self.inside.number;
      session = c.adopt-next.new.session;
      given = c.adopt-next.new.queue.given;
      held = c.adopt-next.new.queue.held;
    } in
    let now : after ≡ answered_with (reply_of served.answered) host S c.args.received c.args.moment served.mark before =
    adopted host S c.args.received c.args.moment served.mark before after served.answered refl c.adopt-next.ensures.session
    c.reserve.ensures.given c.reserve.ensures.held c.adopt-next.ensures.given c.adopt-next.ensures.held said.next said.reads in
    subst (λ (was : LinedSeat). SeatIsLined keeps was → SeatIsLined keeps after) c.self.view_is
    (λ lined. subst (SeatIsLined keeps) (sym now)
    (lined_answered keeps (reply_of served.answered) host S c.args.received c.args.moment served.mark before said.kept lined))
