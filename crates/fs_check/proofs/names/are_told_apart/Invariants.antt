use Rattle.fs_check.specs.Checking.{rank}
use Rattle.fs_check.proofs.Slots.{HasSlots}
use Rattle.fs_check.proofs.names.are_told_apart.Given as goal

abbrev pub invariant-loop-at : goal.invariant-loop-at
invariant-loop-at g l = HasSlots rank l.last l.at l.inodes (g.B.Blocks.blocks l.blocks) l.others
