use Rattle.std.proofs.Common.{◌≡◌, ℕ, List, true, ◌∙◌, ap, sym, subst, arith}
use Rattle.atomic_table.specs.Table.{Me}
use Rattle.server_mark.specs.Rule.{WasRaised, is_flusher, known_of, raised_of}
use Rattle.server_mark.specs.Seats.{FlushView, SeatView}
use Rattle.server_mark.specs.declared.steps.View.{View}
use Rattle.server_mark.proofs.Keeping.{takes_back, tells_allowed}
use Rattle.server_mark.proofs.Mark.take_back.Goals as goal

pub join_seat-requires : goal.join_seat-requires
join_seat-requires c = (
  ap (λ (v : FlushView). v.mark) c.flush.view_is ∙ (c.requires.flush ∙ sym c.self.view_is),
  ap (λ (v : SeatView). v.mark) c.seat.view_is ∙ (c.requires.seat ∙ sym c.self.view_is),
  c.seat.invariant.1,
  omega (arith, c.self.invariant),
  takes_back c.flush.inside.seat.id c.seat.inside.seat.id c.flush.inside.seat.me.0 c.seat.inside.seat.me.0 c.flush.invariant.0
      c.seat.invariant.0,
)

pub load-requires : goal.load-requires
load-requires c =
    let is : is_flusher c.join_seat.new.seat.me.0 ≡ true = ap (λ (m : Me ℕ View). is_flusher m.0) c.join_seat.ensures.2 in (
      c.join_seat.ensures.0 ∙ (ap (λ (v : FlushView). v.mark) c.flush.view_is ∙ (c.requires.flush ∙ sym c.self.view_is)),
      omega (arith, c.self.invariant),
      tells_allowed c.self.inside.table.shared.table_id.slots c.join_seat.new.seat.id c.join_seat.new.seat.me is,
    )

pub returns-clause-raised : goal.returns-clause-raised
returns-clause-raised c =
    let raised : raised_of c.join_seat.new.seat.me.0 ≡ c.args.flush.now.raised =
    ap (λ (m : Me ℕ View). raised_of m.0) c.join_seat.ensures.2 ∙ ap (λ (v : FlushView). v.raised) c.flush.view_is in
    let seen : known_of c.join_seat.new.seat.me.0 ≡ c.args.seat.seen =
    ap (λ (m : Me ℕ View). known_of m.0) c.join_seat.ensures.2 ∙ ap (λ (v : SeatView). v.seen) c.seat.view_is in
    subst (λ (t : List ℕ × ℕ). WasRaised t.0 t.1) (λ i. (raised i, seen i)) c.load.ensures.2.1
