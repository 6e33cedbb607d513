use Rattle.std.proofs.Common.{◌≡◌, ◌<◌, ◌≤◌, ℕ, Option}
use Rattle.std.specs.BTreeMap.{get}
use Rattle.std.specs.Option.{IsSome}
use Rattle.std.specs.Ordering.{nat_cmp}
use Rattle.disk_cache.specs.Taken.{taken}
use Rattle.disk_cache.proofs.collected.Collected.make_room.Given as goal

pub record HasRoom (first block : ℕ) (slot_of before now : ℕ → Option ℕ) : Type 0 where
  pub room : (b : ℕ) → first ≤ b → b < block → IsSome (slot_of b)
  pub same : (k : ℕ) → now k ≡ before k

abbrev pub invariant-loop-block : goal.invariant-loop-block
invariant-loop-block l = HasRoom l.first l.block (get nat_cmp l.self.slots) (taken l.fn.self) (taken l.self)
