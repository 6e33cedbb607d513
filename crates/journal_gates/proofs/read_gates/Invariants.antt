use Rattle.std.proofs.Common.{◌≡◌, ◌<◌, ℕ, IsTrue, get_or}
use Rattle.journal_gates.specs.Gates.{IsLook, IsSeen, gate_at}
use Rattle.journal_gates.proofs.read_gates.Given as goal

abbrev pub invariant-loop-i : goal.invariant-loop-i
invariant-loop-i g l = record {
  look : IsLook (g.D.Disk.device l.fn.disk) (g.D.Disk.device l.disk);
  seen : IsSeen (g.D.Disk.device l.fn.disk) (g.D.Disk.device l.disk);
  gates : IsTrue (g.D.Disk.device l.fn.disk).tells → (k : ℕ) → k < l.i
      → get_or l.gates k 0 ≡ get_or (g.D.Disk.device l.fn.disk).content (gate_at k) 0;
}
