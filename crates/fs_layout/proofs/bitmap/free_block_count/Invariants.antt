use Rattle.std.proofs.Common.{◌≡◌, ◌≤◌, ◌-◌, ℕ, ◌*◌, not, count_by, length}
use Rattle.std.specs.List.{range_with_len}
use Rattle.model.specs.Files.{is_marked_used}
use Rattle.fs_layout.proofs.Marking.{up_to}
use Rattle.fs_layout.proofs.bitmap.free_block_count.Given as goal

abbrev pub invariant-loop-table : goal.invariant-loop-table
invariant-loop-table g l = (l.free ≤ 32768 * l.table)
    × (l.free ≡ count_by (λ b. not (is_marked_used (g.B.Blocks.blocks l.blocks) b))
    (range_with_len 0 (up_to l.table (length (g.B.Blocks.blocks l.blocks)))))
