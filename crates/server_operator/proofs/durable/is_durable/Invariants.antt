use Rattle.std.proofs.Common.{◌≡◌}
use Rattle.server_operator.proofs.durable.is_durable.Given as goal

abbrev pub invariant-looks : goal.invariant-looks
invariant-looks g l = (l.seat.mark ≡ l.mark) × (l.seat.mark ≡ l.initial.seat.mark)
