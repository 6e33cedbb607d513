use Rattle.std.proofs.Common.{◌∙◌, ap, sym, arith}
use Rattle.server_mark.specs.Seats.{FlushView}
use Rattle.server_mark.proofs.Keeping.{stops_allowed}
use Rattle.server_mark.proofs.Mark.stop.Goals as goal

pub fetch_or-requires : goal.fetch_or-requires
fetch_or-requires c = (
  ap (λ (v : FlushView). v.mark) c.seat.view_is ∙ (c.requires ∙ sym c.self.view_is),
  omega (arith, c.self.invariant),
  stops_allowed c.self.inside.table.shared.table_id.slots c.seat.inside.seat.id c.seat.inside.seat.me c.seat.invariant.0,
)
