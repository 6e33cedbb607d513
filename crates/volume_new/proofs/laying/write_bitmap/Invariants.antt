use Rattle.std.proofs.Common.{◌≡◌, IsTrue}
use Rattle.volume_new.specs.Formatting.{HasBitmap, LeavesItOut}
use Rattle.volume_new.proofs.laying.write_bitmap.Given as goal

abbrev pub invariant-loop-table : goal.invariant-loop-table
invariant-loop-table g l = record {
  leaves : LeavesItOut (g.D.Disk.device l.fn.disk) (g.D.Disk.device l.disk);
  failures : (g.D.Disk.device l.disk).failures ≡ (g.D.Disk.device l.fn.disk).failures;
  bitmap : IsTrue (g.D.Disk.device l.fn.disk).tells → HasBitmap l.first l.table l.blocks (g.D.Disk.device l.disk).content;
}
