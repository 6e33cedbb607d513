use Rattle.std.proofs.Common.{◌≡◌, ◌-◌, length}
use Rattle.journal_segments.specs.Found.{AreFound, IsQuiet, IsStill}
use Rattle.journal_segments.proofs.open_segments.find_open.Given as goal

abbrev pub invariant-loop-i : goal.invariant-loop-i
invariant-loop-i g l = record {
  quiet : IsQuiet (g.D.Disk.device l.fn.disk) (g.D.Disk.device l.disk);
  still : IsStill (g.D.Disk.device l.fn.disk) (g.D.Disk.device l.disk);
  size : length l.room.items ≡ length l.fn.room.items;
  found : AreFound (g.D.Disk.device l.disk) l.fn.volume.blocks (length l.fn.room.items - l.i) l.room.items l.found;
}
