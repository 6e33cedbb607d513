use Rattle.std.proofs.Common.{[], length, map}
use Rattle.std.specs.List.{range_with_len}
use Rattle.model.specs.Files.{entry_of, pointer}
use Rattle.fs_check.specs.Checking.{Marks}
use Rattle.fs_check.proofs.used_blocks.mark_pointers.Given as goal

abbrev pub invariant-loop-i : goal.invariant-loop-i
invariant-loop-i g l = Marks (length (g.B.Blocks.blocks l.blocks))
    (map (λ n. pointer (entry_of (g.B.Blocks.blocks l.blocks) l.inode []) n) (range_with_len 0 l.i)) l.initial.marks l.marks
