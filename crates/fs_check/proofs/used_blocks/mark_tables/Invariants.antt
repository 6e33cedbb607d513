use Rattle.std.proofs.Common.{[], length, map}
use Rattle.std.specs.List.{range_with_len}
use Rattle.model.specs.Files.{entry_of, indirect_pointer}
use Rattle.fs_check.specs.Checking.{Marks}
use Rattle.fs_check.proofs.used_blocks.mark_tables.Given as goal

abbrev pub invariant-loop-p : goal.invariant-loop-p
invariant-loop-p g l = Marks (length (g.B.Blocks.blocks l.blocks))
    (map (λ n. indirect_pointer (entry_of (g.B.Blocks.blocks l.blocks) l.inode []) n) (range_with_len 0 l.p)) l.initial.marks l.marks
