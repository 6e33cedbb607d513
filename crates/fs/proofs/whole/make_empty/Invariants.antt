use Rattle.std.proofs.Common.{◌≡◌, length}
use Rattle.model.specs.Files.{first_data}
use Rattle.fs.specs.Emptying.{Emptied}
use Rattle.fs.proofs.whole.make_empty.Given as goal

abbrev pub invariant-loop-table : goal.invariant-loop-table
invariant-loop-table g l =
    Emptied (first_data (length (g.B.Blocks.blocks l.initial.blocks)) l.inodes) l.table (g.B.Blocks.blocks l.initial.blocks)
    (g.B.Blocks.blocks l.blocks)
    × (g.B.Blocks.applied l.blocks ≡ g.B.Blocks.applied l.initial.blocks)
