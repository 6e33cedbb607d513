use Rattle.std.proofs.Common.{◌≡◌, ◌≤◌, ◌*◌, ℕ, take, List}
use Rattle.model.specs.Files.{block_count, content_of, entry}
use Rattle.fs_inodes.specs.Changes.{ReplacesContent, TakesNone}
use Rattle.fs_layout.specs.Touches.{TouchesInode}
use Rattle.fs_inodes.proofs.shrinking.shrink_to.Given as goal

-- so many blocks are left, at least those that are kept
pub record Shrunk (inodes at keep left : ℕ) (old new : List (List ℕ)) : Type 0 where
  pub at_least : keep ≤ left
  pub at_most : left ≤ block_count (entry inodes old at)
  pub counted : block_count (entry inodes new at) ≡ left
  pub replaced : ReplacesContent inodes at (take (4096 * left) (content_of old (entry inodes old at))) old new
  pub none_taken : TakesNone old new
  pub touched : TouchesInode at left (block_count (entry inodes old at)) old new

abbrev pub invariant-loop-left : goal.invariant-loop-left
invariant-loop-left g l =
    Shrunk l.inodes l.at l.keep l.left (g.B.Blocks.blocks l.initial.blocks) (g.B.Blocks.blocks l.blocks)
    × (g.B.Blocks.applied l.blocks ≡ g.B.Blocks.applied l.initial.blocks)

abbrev pub decreases-loop-left : goal.decreases-loop-left
decreases-loop-left g l = l.left
