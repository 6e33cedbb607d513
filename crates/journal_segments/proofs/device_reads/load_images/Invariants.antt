use Rattle.std.proofs.Common.{IsTrue}
use Rattle.journal_segments.specs.Found.{AreLoaded, IsQuiet, IsStill}
use Rattle.journal_segments.proofs.device_reads.load_images.Given as goal

abbrev pub invariant-loop-i : goal.invariant-loop-i
invariant-loop-i g l = record {
  quiet : IsQuiet (g.D.Disk.device l.fn.disk) (g.D.Disk.device l.disk);
  still : IsStill (g.D.Disk.device l.fn.disk) (g.D.Disk.device l.disk);
  loaded : IsTrue (g.D.Disk.device l.fn.disk).tells → AreLoaded l.fn.place l.i (g.D.Disk.device l.fn.disk).content l.images;
}
