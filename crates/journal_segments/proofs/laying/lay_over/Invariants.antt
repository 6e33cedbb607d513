use Rattle.std.proofs.Common.{◌≡◌, ◌≤◌, ◌<◌, ◌+◌, ◌*◌, ℕ, List, [], length, get_or, map, take}
use Rattle.model.specs.Volume.{all_laid_over, block}
use Rattle.journal_laws.specs.Held.{batches_of}
use Rattle.journal_segments.specs.Staged.{held_as}
use Rattle.journal_segments.proofs.laying.lay_over.Given as goal

abbrev pub invariant-loop-k : goal.invariant-loop-k
invariant-loop-k l = record {
  size : length l.octets ≡ length l.fn.octets;
  left : (k : ℕ) → l.k ≤ k → 4096 * k + 4096 ≤ length l.fn.octets → block k l.octets ≡ block k l.fn.octets;
  laid : (blocks : List (List ℕ)) (k : ℕ) → k < l.k → 4096 * k + 4096 ≤ length l.fn.octets → l.start + k < length blocks
      → get_or blocks (l.start + k) [] ≡ block k l.fn.octets
      → get_or (all_laid_over blocks (batches_of (map held_as (take l.n l.room.items)))) (l.start + k) [] ≡ block k l.octets;
}
