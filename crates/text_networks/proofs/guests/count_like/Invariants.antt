use Rattle.std.proofs.Common.{◌≡◌, ◌≤◌, count_by, take}
use Rattle.text_networks.specs.Guests.{is_like}
use Rattle.text_networks.proofs.guests.count_like.Given as goal

abbrev pub invariant-loop-seat : goal.invariant-loop-seat
invariant-loop-seat l = (l.count ≡ count_by (is_like l.guest) (take l.seat-index l.seats)) × (l.count ≤ l.seat-index)
