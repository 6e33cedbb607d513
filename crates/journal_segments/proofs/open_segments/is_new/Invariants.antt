use Rattle.std.proofs.Common.{◌≢◌, ◌<◌, ℕ}
use Rattle.journal_segments.specs.Staged.{number_of, staged_at}
use Rattle.journal_segments.proofs.open_segments.is_new.Given as goal

abbrev pub invariant-loop-i : goal.invariant-loop-i
invariant-loop-i l = (t : ℕ) → t < l.i → number_of (staged_at l.room.items t) ≢ number_of (staged_at l.room.items l.n)
