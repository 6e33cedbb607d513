use Rattle.std.proofs.Common.{◌≡◌}
use Rattle.journal.specs.Journal.{IsIdle}
use Rattle.server_flusher.specs.Flush.{HasNotFailed}
use Rattle.server_flusher.proofs.flushing.flush_to_end.Given as goal

abbrev pub invariant-turns : goal.invariant-turns
invariant-turns g l =
    record {
      idle : IsIdle l.work.journal;
      mine : l.work.seat.mark ≡ l.around.mark.now;
      good : HasNotFailed g.D.Disk.device l.fn.work.journal l.work.journal;
    }
