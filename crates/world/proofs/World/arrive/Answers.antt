use Rattle.std.proofs.Common.{None, ap}
use Rattle.kernel_trace.specs.Traced.{TracedView}
use Rattle.world.specs.Fields.{news_in}
use Rattle.world.specs.World.{WorldView, kernel_of}
use Rattle.kernel_trace.specs.Errors.{of_arrive}
use Rattle.kernel_trace.specs.Events.{arrive_refusal}
use Rattle.kernel_trace.specs.declared.errors.ArriveError.TheVariants.{Memory}
use Rattle.world.proofs.Sound.{Grows-seats, sound_tested, tested_or}
use Rattle.world.proofs.World.arrive.Goals as goal

pub invariant_of-self : goal.invariant_of-self
invariant_of-self g c =
    let old : WorldView g.row.D.Denot =
    record {
      journal = c.self.inside.journal;
      served = c.self.inside.served;
      untold = news_in c.self.inside.ticket c.self.inside.is_committed c.self.inside.has_failed;
    } in
    sound_tested of_arrive Memory None (arrive_refusal (kernel_of old) c.args.number) (g.D.Disk.device c.self.inside.journal.disk).tells old
    c.arrive.new.self c.self.inside.ticket c.arrive.result _
    (λ x none done. Grows-seats (kernel_of old) c.arrive.new.self.kernel _ _ (ap (λ (s : TracedView). s.kernel) done)) c.kept.ensures.kernel
    (tested_or of_arrive Memory (arrive_refusal (kernel_of old) c.args.number) old.served c.arrive.new.self c.arrive.result _
    c.arrive.ensures) c.self.invariant
