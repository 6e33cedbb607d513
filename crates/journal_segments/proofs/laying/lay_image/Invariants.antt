use Rattle.std.proofs.Common.{◌≡◌, ◌<◌, ℕ, List, [], length, get_or, take}
use Rattle.model.specs.Volume.{laid_over}
use Rattle.journal_segments.proofs.laying.lay_image.Given as goal

abbrev pub invariant-loop-i : goal.invariant-loop-i
invariant-loop-i l = record {
  whole : length l.octets ≡ 4096;
  laid : (blocks : List (List ℕ)) → l.block < length blocks → get_or blocks l.block [] ≡ l.fn.octets
      → get_or (laid_over blocks (take l.i l.segment.numbers) (take l.i l.segment.images)) l.block [] ≡ l.octets;
}
