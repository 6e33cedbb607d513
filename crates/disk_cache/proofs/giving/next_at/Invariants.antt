use Rattle.std.proofs.Common.{◌≡◌, ◌<◌, ◌≤◌, ◌-◌, ℕ, length}
use Rattle.disk_cache.specs.Slots.{is_collected}
use Rattle.disk_cache.proofs.giving.next_at.Given as goal

abbrev pub invariant-loop-at : goal.invariant-loop-at
invariant-loop-at l = record {
  low : l.from ≤ l.at;
  high : l.at ≤ length l.slots.flags.now;
  none : (k : ℕ) → l.from ≤ k → k < l.at → is_collected l.slots.fills.now l.slots.flags.now k ≡ l.is_wanted → ⊥;
}

abbrev pub decreases-loop-at : goal.decreases-loop-at
decreases-loop-at l = length l.slots.flags.now - l.at
