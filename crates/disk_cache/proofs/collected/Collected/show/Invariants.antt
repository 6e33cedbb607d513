use Rattle.std.proofs.Common.{◌≡◌, ◌<◌, ◌≤◌, ℕ, ◌+◌, ◌/◌, List, Option, length, slice_index}
use Rattle.std.specs.Option.{unwrap_or}
use Rattle.disk_cache.specs.Taken.{taken}
use Rattle.disk_cache.proofs.collected.Collected.show.Given as goal

-- the octets of the blocks below one are shown
pub record IsShownTo (block at : ℕ) (before into : List ℕ) (shown : ℕ → Option ℕ) : Type 0 where
  pub below : (k : ℕ) → k < length before → (at + k) / 4096 < block → slice_index into k ≡ unwrap_or (shown (at + k)) (slice_index before k)
  pub rest : (k : ℕ) → block ≤ (at + k) / 4096 → slice_index into k ≡ slice_index before k

abbrev pub invariant-loop-block : goal.invariant-loop-block
invariant-loop-block l = IsShownTo l.block l.at l.initial.into l.into (taken l.self)
