use Rattle.std.proofs.Common.{◌≡◌, ℕ, ◌<◌, ◌*◌, true, length}
use Rattle.model.specs.Files.{is_marked_used}
use Rattle.fs_layout.proofs.bitmap.lowest_free.Given as goal

abbrev pub invariant-loop-table : goal.invariant-loop-table
invariant-loop-table g l = (b : ℕ) → b < 32768 * l.table → b < length (g.B.Blocks.blocks l.blocks)
    → is_marked_used (g.B.Blocks.blocks l.blocks) b ≡ true
