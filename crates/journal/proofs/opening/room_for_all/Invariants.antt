use Rattle.std.proofs.Common.{◌≡◌, ◌<◌, length}
use Rattle.journal_segments.specs.Staged.{staged_at}
use Rattle.journal.proofs.opening.room_for_all.Given as goal

abbrev pub invariant-loop-place : goal.invariant-loop-place
invariant-loop-place l = record {
  count : length l.room.items ≡ l.place;
  first : 0 < l.place → (staged_at l.room.items 0).place ≡ 0;
}
