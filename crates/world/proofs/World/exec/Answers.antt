use Rattle.std.proofs.Common.{sym}
use Rattle.world.specs.Fields.{news_in}
use Rattle.world.specs.World.{WorldView, kernel_of}
use Rattle.kernel.specs.Kernel.{mode_at}
use Rattle.kernel_trace.specs.Traced.{next_of}
use Rattle.std.proofs.Common.{subst}
use Rattle.std.specs.Prelude.{Result}
use Rattle.world.specs.Events.{DidExec}
use Rattle.world.specs.World.{with_served}
use Rattle.world.specs.declared.events.StepAnswer.{StepAnswer}
use Rattle.world.specs.declared.events.StepError.{StepError}
use Rattle.world.proofs.Sound.{did_exec, sound_exec}
use Rattle.world.proofs.World.exec.Goals as goal

pub invariant_of-self : goal.invariant_of-self
invariant_of-self g c =
    let old : WorldView g.row.D.Denot =
    record {
      journal = c.self.inside.journal;
      served = c.self.inside.served;
      untold = news_in c.self.inside.ticket c.self.inside.is_committed c.self.inside.has_failed;
    } in
    sound_exec (g.D.Disk.device c.self.inside.journal.disk).tells old c.exec.new.self c.self.inside.ticket c.args.number c.args.moment
    (mode_at (kernel_of old) c.args.number) (next_of old.served c.args.number) c.exec.result c.kept.ensures.kernel c.exec.ensures
    c.self.invariant

pub returns : goal.returns
returns g c =
    let old : WorldView g.row.D.Denot =
    record {
      journal = c.self.inside.journal;
      served = c.self.inside.served;
      untold = news_in c.self.inside.ticket c.self.inside.is_committed c.self.inside.has_failed;
    } in
    let did = did_exec old c.exec.new.self c.args.number c.args.moment (mode_at (kernel_of old) c.args.number)
    (next_of old.served c.args.number) c.exec.result c.exec.ensures in
    subst (λ (t : WorldView g.row.D.Denot × Result StepAnswer StepError). DidExec t.0 c.args.number c.args.moment
    (mode_at (kernel_of t.0) c.args.number) (next_of t.0.served c.args.number) t.1 (with_served old c.exec.new.self))
    (λ i. (c.self.view_is i, sym c.exec_answer.ensures i)) did
