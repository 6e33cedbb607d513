use Rattle.std.proofs.Common.{◌≡◌, ◌-◌, ◌^◌, ℕ}
use Rattle.std.specs.BTreeMap.{get}
use Rattle.std.specs.Ordering.{nat_cmp}
use Rattle.disk_cache.specs.Taken.{taken}
use Rattle.disk_cache.proofs.Moving.{IsArrangedTo}
use Rattle.disk_cache.proofs.collected.Collected.arrange.Given as goal

abbrev pub invariant-loop-block : goal.invariant-loop-block
invariant-loop-block l = record {
  so_far : IsArrangedTo l.from l.slot (get nat_cmp l.self.slots);
  same : (k : ℕ) → taken l.self k ≡ taken l.fn.self k;
}

abbrev pub decreases-loop-block : goal.decreases-loop-block
decreases-loop-block l = 2 ^ 52 - l.from
