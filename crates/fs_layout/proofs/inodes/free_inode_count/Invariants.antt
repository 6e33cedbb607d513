use Rattle.std.proofs.Common.{◌≡◌, ◌≤◌, ◌*◌, eqb, count_by}
use Rattle.std.specs.List.{range_with_len}
use Rattle.model.specs.Files.{kind, entry}
use Rattle.fs_layout.proofs.inodes.free_inode_count.Given as goal

abbrev pub invariant-loop-table : goal.invariant-loop-table
invariant-loop-table g l = (l.free ≤ 64 * l.table)
    × (l.free ≡ count_by (λ k. eqb (kind (entry l.inodes (g.B.Blocks.blocks l.blocks) k)) 0) (range_with_len 0 (64 * l.table)))
