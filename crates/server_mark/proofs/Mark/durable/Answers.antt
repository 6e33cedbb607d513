use Rattle.std.proofs.Common.{◌∙◌, ap, sym, arith}
use Rattle.server_mark.specs.Seats.{SeatView}
use Rattle.server_mark.proofs.Keeping.{looks_allowed}
use Rattle.server_mark.proofs.Mark.durable.Goals as goal

pub load-requires : goal.load-requires
load-requires c = (
  ap (λ (v : SeatView). v.mark) c.seat.view_is ∙ (c.requires ∙ sym c.self.view_is),
  omega (arith, c.self.invariant),
  looks_allowed c.self.inside.table.shared.table_id.slots c.seat.inside.seat.id c.seat.inside.seat.me c.seat.invariant.0,
)
