use Rattle.std.proofs.Common.{◌≡◌, ◌-◌, ◌≤◌, ℕ, replicate, List}
use Rattle.fs_inodes.specs.Growing.{GrowsBy}
use Rattle.fs_layout.proofs.Touching.{Spread}
use Rattle.fs_inodes.proofs.growing.extend_zeros.Given as goal

pub record Grown (inodes k from count : ℕ) (old new : List (List ℕ)) : Type 0 where
  pub within : from ≤ count
  pub grown : GrowsBy inodes k (replicate from 0) old new

abbrev pub invariant-loop-from : goal.invariant-loop-from
invariant-loop-from g l =
    record {
      here : Grown l.inodes l.at l.from l.count (g.B.Blocks.blocks l.fn.blocks) (g.B.Blocks.blocks l.blocks);
      spread : Spread l.at l.size l.from l.count (g.B.Blocks.blocks l.fn.blocks) (g.B.Blocks.blocks l.blocks);
      kept : g.B.Blocks.applied l.blocks ≡ g.B.Blocks.applied l.fn.blocks;
    }

abbrev pub decreases-loop-from : goal.decreases-loop-from
decreases-loop-from g l = l.count - l.from
