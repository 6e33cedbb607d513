use Rattle.fs_check.proofs.Slots.{HasSlots}
use Rattle.fs_check.proofs.names.are_gathered_apart.Given as goal

abbrev pub invariant-loop-at : goal.invariant-loop-at
invariant-loop-at g l = HasSlots (λ _. 0) 0 l.at l.inodes (g.B.Blocks.blocks l.blocks) l.slots
