use Rattle.std.proofs.Common.{◌≡◌, ◌<◌, ◌≤◌, ◌-◌, ℕ, length, slice_index}
use Rattle.disk_cache.proofs.giving.past_flags.Given as goal

abbrev pub invariant-loop-past : goal.invariant-loop-past
invariant-loop-past l = record {
  low : l.from ≤ l.past;
  high : l.past ≤ length l.flags;
  each : (k : ℕ) → l.from ≤ k → k < l.past → slice_index l.flags k ≡ 1;
}

abbrev pub decreases-loop-past : goal.decreases-loop-past
decreases-loop-past l = length l.flags - l.past
