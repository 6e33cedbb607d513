use Rattle.std.proofs.Common.{◌≡◌, ◌<◌, ◌≤◌, ◌+◌, ◌-◌, ℕ, length, slice_index}
use Rattle.disk_cache.proofs.collected.adjacent_past.Given as goal

abbrev pub invariant-loop-past : goal.invariant-loop-past
invariant-loop-past l = record {
  low : l.slot < l.past;
  high : l.past ≤ length l.blocks;
  adjacent : (i : ℕ) → l.slot + i < l.past → slice_index l.blocks (l.slot + i) ≡ slice_index l.blocks l.slot + i;
}

abbrev pub decreases-loop-past : goal.decreases-loop-past
decreases-loop-past l = length l.blocks - l.past
