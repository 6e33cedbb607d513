use Rattle.std.proofs.Common.{◌≡◌, ◌<◌, ℕ, [], length, get_or}
use Rattle.model.specs.Volume.{block}
use Rattle.journal_volume.proofs.chunks.Chunks.of.Given as goal

abbrev pub invariant-loop-number : goal.invariant-loop-number
invariant-loop-number l = record {
  size : length l.chunks.blocks ≡ l.count;
  so_far : (k : ℕ) → k < l.number → get_or l.chunks.blocks k [] ≡ block k l.octets;
}
