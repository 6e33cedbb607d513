use Rattle.std.proofs.Common.{◌≡◌, length, take}
use Rattle.journal_segments.specs.Staged.{put_from, put_staged, staged_at}
use Rattle.journal_segments.proofs.open_segments.put_in.Given as goal

abbrev pub invariant-loop-i : goal.invariant-loop-i
invariant-loop-i l = record {
  size : length l.room.items ≡ length l.fn.room.items;
  way : put_from l.room.items l.fn.n l.i ≡ put_staged (staged_at l.fn.room.items l.fn.n) (take l.fn.n l.fn.room.items);
}
