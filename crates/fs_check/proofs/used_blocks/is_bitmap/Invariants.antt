use Rattle.std.proofs.Common.{◌≡◌, ℕ, ◌+◌, ◌*◌, ◌<◌}
use Rattle.model.specs.Files.{is_marked_used}
use Rattle.fs_layout.specs.Bits.{bit_of}
use Rattle.fs_check.proofs.used_blocks.is_bitmap.Given as goal

abbrev pub invariant-loop-table : goal.invariant-loop-table
invariant-loop-table g l = (table b : ℕ) → table < l.table → b < 32768
    → is_marked_used (g.B.Blocks.blocks l.blocks) (32768 * table + b) ≡ bit_of l.marks (32768 * table + b)
