use Rattle.std.proofs.Common.{◌≡◌, ◌≤◌, ◌*◌, get_or}
use Rattle.volume_usage.specs.Usage.{sum_of}
use Rattle.volume_usage.proofs.tables.BitmapMarks.all.Given as goal

abbrev pub invariant-loop-table : goal.invariant-loop-table
invariant-loop-table l = (l.all ≡ sum_of (λ t. get_or l.self.bits t 0) l.table) × (l.all ≤ 4294967296 * l.table)
