use Rattle.std.proofs.Common.{◌≡◌, ◌<◌, ℕ, get_or, length}
use Rattle.volume_usage.specs.Marks.{IsWhole, image_of, marked_after}
use Rattle.volume_usage.proofs.tables.BitmapMarks.after.Given as goal

abbrev pub invariant-loop-table : goal.invariant-loop-table
invariant-loop-table l = (length l.bits ≡ 128)
    × (IsWhole l.batch → (t : ℕ) → t < l.table → get_or l.bits t 0 ≡ marked_after (get_or l.self.bits t 0) (image_of l.batch t))
