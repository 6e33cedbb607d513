use Rattle.std.proofs.Common.{◌≡◌, ◌<◌, ℕ, IsTrue}
use Rattle.model.specs.Volume.{block}
use Rattle.journal_layout.specs.Formatting.{zero_block}
use Rattle.volume_new.specs.Formatting.{LeavesItOut}
use Rattle.volume_new.proofs.laying.write_zeros.Given as goal

abbrev pub invariant-loop-k : goal.invariant-loop-k
invariant-loop-k g l = record {
  leaves : LeavesItOut (g.D.Disk.device l.fn.disk) (g.D.Disk.device l.disk);
  failures : (g.D.Disk.device l.disk).failures ≡ (g.D.Disk.device l.fn.disk).failures;
  zeros : IsTrue (g.D.Disk.device l.fn.disk).tells → (k : ℕ) → 0 < k → k < l.k → block k (g.D.Disk.device l.disk).content ≡ zero_block;
}
