use Rattle.std.proofs.Common.{◌≡◌, List, ℕ, IsTrue}
use Rattle.volume_new.specs.Formatting.{IsLaid}
use Rattle.copy_writing.proofs.Laid.{put_over}
use Rattle.copy_writing.proofs.put.Given as goal

abbrev pub invariant-loop-place : goal.invariant-loop-place
invariant-loop-place g l = record {
  size : (g.D.Disk.device l.disk).size ≡ (g.D.Disk.device l.fn.disk).size;
  tells : (g.D.Disk.device l.disk).tells ≡ (g.D.Disk.device l.fn.disk).tells;
  laid : IsTrue (g.D.Disk.device l.fn.disk).tells → (homes : List (List ℕ))
      → IsLaid l.blocks homes (g.D.Disk.device l.fn.disk).content
      → IsLaid l.blocks (put_over homes l.numbers l.images l.place) (g.D.Disk.device l.disk).content;
}
