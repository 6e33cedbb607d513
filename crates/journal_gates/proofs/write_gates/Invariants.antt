use Rattle.journal_gates.proofs.Writing.{IsWriting}
use Rattle.journal_gates.proofs.write_gates.Given as goal

abbrev pub invariant-loop-i : goal.invariant-loop-i
invariant-loop-i g l = IsWriting g.D.Disk.device g.D.Disk.write_grows g.D.Disk.sync_grows l.gates l.i l.initial.disk l.disk
