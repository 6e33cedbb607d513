use Rattle.std.proofs.Common.{◌≡◌, ◌-◌, ◌≤◌, ℕ, length, take, List}
use Rattle.fs_inodes.specs.Growing.{GrowsBy}
use Rattle.fs_layout.proofs.Touching.{Spread}
use Rattle.fs_inodes.proofs.growing.extend.Given as goal

pub record Grown (inodes k from : ℕ) (octets : List ℕ) (old new : List (List ℕ)) : Type 0 where
  pub within : from ≤ length octets
  pub grown : GrowsBy inodes k (take from octets) old new

abbrev pub invariant-loop-done : goal.invariant-loop-done
invariant-loop-done g l =
    record {
      here : Grown l.inodes l.at l.done l.octets (g.B.Blocks.blocks l.fn.blocks) (g.B.Blocks.blocks l.blocks);
      spread : Spread l.at l.size l.done (length l.octets) (g.B.Blocks.blocks l.fn.blocks) (g.B.Blocks.blocks l.blocks);
      kept : g.B.Blocks.applied l.blocks ≡ g.B.Blocks.applied l.fn.blocks;
    }

abbrev pub decreases-loop-done : goal.decreases-loop-done
decreases-loop-done g l = length l.octets - l.done
