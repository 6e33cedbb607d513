use Rattle.fs_check.specs.Checking.{HasOwners, MarksUsed}
use Rattle.fs_check.proofs.used_blocks.mark_owners.Given as goal

abbrev pub invariant-loop-at : goal.invariant-loop-at
invariant-loop-at g l = HasOwners l.at l.inodes (g.B.Blocks.blocks l.blocks) × MarksUsed l.at l.inodes (g.B.Blocks.blocks l.blocks) l.marks
