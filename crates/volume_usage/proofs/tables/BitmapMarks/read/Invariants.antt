use Rattle.std.proofs.Common.{◌≡◌, ◌<◌, ℕ, IsTrue, get_or, length}
use Rattle.disk.specs.Device.{Elapses}
use Rattle.journal.specs.Inside.{LeftAs}
use Rattle.journal.specs.Journal.{IsReady}
use Rattle.volume_usage.specs.Usage.{marked}
use Rattle.volume_usage.proofs.tables.BitmapMarks.read.Given as goal

abbrev pub invariant-loop-table : goal.invariant-loop-table
invariant-loop-table g l = IsReady l.journal × (l.journal.label ≡ l.initial.journal.label)
    × (l.journal.format ≡ l.initial.journal.format) × (l.journal.size ≡ l.initial.journal.size)
    × ((g.D.Disk.device l.journal.disk).tells ≡ (g.D.Disk.device l.initial.journal.disk).tells)
    × ((g.D.Disk.device l.journal.disk).failures ≡ (g.D.Disk.device l.initial.journal.disk).failures)
    × (IsTrue (g.D.Disk.device l.initial.journal.disk).tells → l.journal.blocks ≡ l.initial.journal.blocks)
    × (IsTrue (g.D.Disk.device l.initial.journal.disk).tells → (t : ℕ) → t < l.table
    → get_or l.bits t 0 ≡ marked l.initial.journal.blocks t)
    × (length l.bits ≡ 128)
    × Elapses (g.D.Disk.device l.initial.journal.disk) (g.D.Disk.device l.journal.disk)
    × LeftAs (g.D.Disk.device l.initial.journal.disk) (g.D.Disk.device l.journal.disk) l.initial.journal.format l.initial.journal.label
    l.initial.journal.blocks
