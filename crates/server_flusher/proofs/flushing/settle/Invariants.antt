use Rattle.journal.proofs.During.{IsOnTheWay}
use Rattle.server_flusher.proofs.flushing.settle.Given as goal

abbrev pub invariant-calls : goal.invariant-calls
invariant-calls g l = IsOnTheWay g.D.Disk.device l.fn.journal l.journal
