use Rattle.std.proofs.Common.{◌<◌, ℕ}
use Rattle.model.specs.Files.{table}
use Rattle.model.specs.Spool.{Spool}
use Rattle.spool_index.specs.View.{Indexes}
use Rattle.spool_opening.specs.Ended.{IsWholeAt}
use Rattle.spool_opening.proofs.ending.are_whole.Given as goal

-- those so far
abbrev pub invariant-loop-at : goal.invariant-loop-at
invariant-loop-at g l = (S : Spool) → Indexes S l.index → (k : ℕ) → k < l.at → IsWholeAt (table l.inodes (g.B.Blocks.blocks l.blocks)) S k
