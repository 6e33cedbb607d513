use Rattle.server_flusher.proofs.Committing.{IsBefore}
use Rattle.server_flusher.proofs.flushing.commit.Given as goal

abbrev pub invariant-calls : goal.invariant-calls
invariant-calls g l = IsBefore g.D.Disk.device l.fn.journal l.journal
