use Rattle.std.proofs.Common.{◌≡◌, ◌<◌, ℕ, IsTrue}
use Rattle.model.specs.Volume.{block}
use Rattle.journal_layout.specs.Formatting.{zero_block}
use Rattle.copy_writing.proofs.begin.Given as goal

abbrev pub invariant-loop-k : goal.invariant-loop-k
invariant-loop-k g l = record {
  size : (g.D.Disk.device l.disk).size ≡ (g.D.Disk.device l.fn.disk).size;
  tells : (g.D.Disk.device l.disk).tells ≡ (g.D.Disk.device l.fn.disk).tells;
  zeros : IsTrue (g.D.Disk.device l.fn.disk).tells → (k : ℕ) → 0 < k → k < l.k → block k (g.D.Disk.device l.disk).content ≡ zero_block;
}
