use Rattle.std.proofs.Common.{◌≡◌}
use Rattle.server_consoles.proofs.desk.Operator.answer_all.Given as goal

abbrev pub invariant-orders : goal.invariant-orders
invariant-orders g l = l.seat.mark ≡ l.service.mark.now
