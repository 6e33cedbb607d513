use Rattle.std.proofs.Common.{◌≡◌, ◌<◌, ℕ, IsTrue}
use Rattle.disk.specs.Device.{Elapses}
use Rattle.model.specs.Volume.{block}
use Rattle.journal_layout.proofs.formatting.write_blocks.Given as goal

abbrev pub invariant-loop-k : goal.invariant-loop-k
invariant-loop-k g l = record {
  time : Elapses (g.D.Disk.device l.fn.disk) (g.D.Disk.device l.disk);
  failures : (g.D.Disk.device l.disk).failures ≡ (g.D.Disk.device l.fn.disk).failures;
  blocks : IsTrue (g.D.Disk.device l.fn.disk).tells → (k : ℕ) → 0 < k → k < l.k → block k (g.D.Disk.device l.disk).content ≡ l.octets;
}
