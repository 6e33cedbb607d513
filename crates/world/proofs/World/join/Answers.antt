use Rattle.std.proofs.Common.{None, ap}
use Rattle.kernel_trace.specs.Traced.{TracedView}
use Rattle.world.specs.Fields.{news_in}
use Rattle.world.specs.World.{WorldView, kernel_of}
use Rattle.kernel.specs.Errors.{of_join}
use Rattle.kernel.specs.Kernel.{join_refusal}
use Rattle.kernel_shared.specs.declared.errors.JoinError.TheVariants.{Memory}
use Rattle.world.proofs.Sound.{Grows-seats, sound_tested, tested_or}
use Rattle.world.proofs.World.join.Goals as goal

pub invariant_of-self : goal.invariant_of-self
invariant_of-self g c =
    let old : WorldView g.row.D.Denot =
    record {
      journal = c.self.inside.journal;
      served = c.self.inside.served;
      untold = news_in c.self.inside.ticket c.self.inside.is_committed c.self.inside.has_failed;
    } in
    sound_tested of_join Memory None (join_refusal (kernel_of old)) (g.D.Disk.device c.self.inside.journal.disk).tells old c.join.new.self
    c.self.inside.ticket c.join.result _
    (λ number none done. Grows-seats (kernel_of old) c.join.new.self.kernel _ _ (ap (λ (s : TracedView). s.kernel) done.1))
    c.kept.ensures.kernel
    (tested_or of_join Memory (join_refusal (kernel_of old)) old.served c.join.new.self c.join.result _ c.join.ensures) c.self.invariant
