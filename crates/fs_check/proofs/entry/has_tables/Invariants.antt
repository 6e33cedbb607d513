use Rattle.std.proofs.Common.{ℕ, ◌<◌, [], length}
use Rattle.model.specs.Files.{entry_of, first_data, indirect_pointer}
use Rattle.fs_check.specs.Checking.{HasNumber}
use Rattle.fs_check.proofs.entry.has_tables.Given as goal

abbrev pub invariant-loop-p : goal.invariant-loop-p
invariant-loop-p g l = (p : ℕ) → p < l.p
    → HasNumber (first_data (length (g.B.Blocks.blocks l.blocks)) l.inodes) (length (g.B.Blocks.blocks l.blocks)) p l.tables
    (indirect_pointer (entry_of (g.B.Blocks.blocks l.blocks) l.inode []) p)
