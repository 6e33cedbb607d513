use Rattle.std.proofs.Common.{◌∙◌, ap, sym, arith}
use Rattle.server_mark.specs.Seats.{FlushView}
use Rattle.server_mark.proofs.Keeping.{raises_allowed}
use Rattle.server_mark.proofs.Mark.raise.Goals as goal

pub fetch_max-requires : goal.fetch_max-requires
fetch_max-requires c = (
  ap (λ (v : FlushView). v.mark) c.seat.view_is ∙ (c.requires ∙ sym c.self.view_is),
  omega (arith, c.self.invariant),
  raises_allowed c.self.inside.table.shared.table_id.slots c.seat.inside.seat.id c.seat.inside.seat.me c.args.n c.seat.invariant.0,
)
