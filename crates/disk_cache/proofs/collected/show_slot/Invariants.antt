use Rattle.std.proofs.Common.{◌≡◌, ◌<◌, ◌≤◌, ℕ, ◌+◌, ◌-◌, ◌*◌, List, slice_index}
use Rattle.std.specs.Option.{unwrap_or}
use Rattle.disk_cache.specs.Slots.{cell}
use Rattle.disk_cache.specs.declared.collected.Fill.{Fill}
use Rattle.disk_cache.proofs.collected.show_slot.Given as goal

-- the octets of a slot are shown up to one
pub record IsShownTo (k at start : ℕ) (fills : List Fill) (flags octets before into : List ℕ) : Type 0 where
  pub front : (j : ℕ) → at + j < start → slice_index into j ≡ slice_index before j
  pub below : (j : ℕ) → start ≤ at + j → j < k
      → slice_index into j ≡ unwrap_or (cell fills flags octets (at + j - start)) (slice_index before j)
  pub rest : (j : ℕ) → k ≤ j → slice_index into j ≡ slice_index before j

abbrev pub invariant-loop-k : goal.invariant-loop-k
invariant-loop-k l =
    IsShownTo l.k l.at (4096 * l.slot.block) l.slot.fills.now l.slot.flags.now l.slot.octets.now l.initial.into l.into
