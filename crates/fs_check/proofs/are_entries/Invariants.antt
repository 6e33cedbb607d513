use Rattle.model.specs.Files.{most_octets}
use Rattle.std.proofs.Common.{ℕ, ◌<◌}
use Rattle.fs_check.specs.Checking.{HasSmallEntry}
use Rattle.fs_check.proofs.are_entries.Given as goal

abbrev pub invariant-loop-at : goal.invariant-loop-at
invariant-loop-at g l = (k : ℕ) → k < l.at → HasSmallEntry (most_octets l.format) l.inodes (g.B.Blocks.blocks l.blocks) k
