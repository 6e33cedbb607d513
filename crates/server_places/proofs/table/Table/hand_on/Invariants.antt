use Rattle.std.proofs.Common.{◌≡◌}
use Rattle.server_places.proofs.table.Table.hand_on.Given as goal

abbrev pub invariant-waiters : goal.invariant-waiters
invariant-waiters l = l.self.guests.seats.items ≡ l.fn.self.guests.seats.items
