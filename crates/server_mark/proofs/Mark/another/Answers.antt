use Rattle.std.proofs.Common.{◌∙◌, ap, sym, arith}
use Rattle.server_mark.specs.Seats.{SeatView}
use Rattle.server_mark.proofs.Keeping.{same_caller}
use Rattle.server_mark.proofs.Mark.another.Goals as goal

pub split_seat-requires : goal.split_seat-requires
split_seat-requires c = (
  ap (λ (v : SeatView). v.mark) c.seat.view_is ∙ (c.requires ∙ sym c.self.view_is),
  omega (arith, c.self.invariant),
  same_caller c.seat.inside.seat.id c.seat.inside.seat.me.0 c.seat.invariant.0,
)
