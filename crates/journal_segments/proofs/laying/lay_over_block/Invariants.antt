use Rattle.std.proofs.Common.{◌≡◌, ◌<◌, ℕ, List, [], length, get_or, map, take}
use Rattle.model.specs.Volume.{all_laid_over}
use Rattle.journal_laws.specs.Held.{batches_of}
use Rattle.journal_segments.specs.Staged.{held_as}
use Rattle.journal_segments.proofs.laying.lay_over_block.Given as goal

abbrev pub invariant-loop-i : goal.invariant-loop-i
invariant-loop-i l = record {
  whole : length l.octets ≡ 4096;
  laid : (blocks : List (List ℕ)) → l.block < length blocks → get_or blocks l.block [] ≡ l.fn.octets
      → get_or (all_laid_over blocks (batches_of (map held_as (take l.i l.room.items)))) l.block [] ≡ l.octets;
}
