use Rattle.std.proofs.Common.{ap}
use Rattle.kernel_trace.specs.Traced.{TracedView}
use Rattle.world.specs.Fields.{news_in}
use Rattle.world.specs.World.{WorldView, kernel_of}
use Rattle.world.proofs.Sound.{Grows-seats, sound_grows}
use Rattle.world.proofs.World.leave.Goals as goal

pub invariant_of-self : goal.invariant_of-self
invariant_of-self g c =
    let old : WorldView g.row.D.Denot =
    record {
      journal = c.self.inside.journal;
      served = c.self.inside.served;
      untold = news_in c.self.inside.ticket c.self.inside.is_committed c.self.inside.has_failed;
    } in
    sound_grows (g.D.Disk.device c.self.inside.journal.disk).tells old c.leave.new.self c.self.inside.ticket c.kept.ensures.kernel
    (Grows-seats (kernel_of old) c.leave.new.self.kernel _ _ (ap (λ (s : TracedView). s.kernel) c.leave.ensures)) c.self.invariant
