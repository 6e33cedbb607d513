use Rattle.std.proofs.Common.{[], arith}
use Rattle.server_mark.proofs.Keeping.{at_opening, first_caller}
use Rattle.server_mark.proofs.Mark.new.Goals as goal

pub of_words-requires : goal.of_words-requires
of_words-requires c = at_opening []

pub split_seat-seat-requires : goal.split_seat-seat-requires
split_seat-seat-requires c = (
  c.in_ok-table.ensures.2,
  omega (arith, c.in_ok-table.ensures.0),
  first_caller c.in_ok-table.first.id c.in_ok-table.first.me.0,
)
