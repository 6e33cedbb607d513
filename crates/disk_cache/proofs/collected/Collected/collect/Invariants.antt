use Rattle.std.proofs.Common.{◌≡◌, ◌⊎◌, ◌<◌, ◌≤◌, ℕ, ◌+◌, ◌-◌, ◌/◌, List, Option, Some, length, slice_index}
use Rattle.std.specs.BTreeMap.{get}
use Rattle.std.specs.Option.{IsSome}
use Rattle.std.specs.Ordering.{nat_cmp}
use Rattle.disk_cache.specs.Taken.{taken}
use Rattle.disk_cache.proofs.collected.Collected.collect.Given as goal

-- the blocks below one have their octets
pub record IsCollectedTo (block at first past : ℕ) (from : List ℕ) (slot_of before now : ℕ → Option ℕ) : Type 0 where
  pub room : (b : ℕ) → first ≤ b → b < past → IsSome (slot_of b)
  pub inside : (k : ℕ) → at ≤ k → k < at + length from → k / 4096 < block → now k ≡ Some (slice_index from (k - at))
  pub outside : (k : ℕ) → (k < at) ⊎ ((at + length from ≤ k) ⊎ (block ≤ k / 4096)) → now k ≡ before k

abbrev pub invariant-loop-block : goal.invariant-loop-block
invariant-loop-block l = IsCollectedTo l.block l.at l.first l.past l.from (get nat_cmp l.self.slots) (taken l.fn.self) (taken l.self)
