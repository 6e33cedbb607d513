use Rattle.std.proofs.Common.{◌≡◌, ◌≤◌, count_by, take}
use Rattle.text_networks.specs.Guests.{is_free}
use Rattle.text_networks.proofs.guests.count_free.Given as goal

abbrev pub invariant-loop-seat : goal.invariant-loop-seat
invariant-loop-seat l = (l.count ≡ count_by is_free (take l.seat-index l.seats)) × (l.count ≤ l.seat-index)
