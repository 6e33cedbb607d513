use Rattle.std.proofs.Common.{Result, Err, ap, subst, sym, ◌∙◌}
use Rattle.std.proofs.lemmas.Result.{err_from_is_err_and}
use Rattle.world.specs.Draining.{FinishesBatch}
use Rattle.world.specs.declared.events.StepError.{StepError}
use Rattle.world.proofs.Settling.{batch_finished, batch_refused}
use Rattle.world.proofs.World.finish_batch.Goals as goal

pub returns-in_err-carry_out : goal.returns-in_err-carry_out
returns-in_err-carry_out g c =
    let p = err_from_is_err_and c.from_residual.result c.from_residual.ensures.1 in
    subst (λ (r : Result (Unit {0}) StepError). FinishesBatch g.D.Disk.device g.D.Disk.write_grows g.D.Disk.sync_grows c.args.self.now r
    c.carry_out.new.self) (ap Err (sym p.2) ∙ sym p.1)
    (batch_refused g.D.Disk.device g.D.Disk.write_grows g.D.Disk.sync_grows c.args.self.now c.carry_out.new.self _
    (rw c.in_err-carry_out.was at c.carry_out.ensures))

pub returns : goal.returns
returns g c = batch_finished g.D.Disk.device g.D.Disk.write_grows g.D.Disk.sync_grows c.args.self.now c.carry_out.new.self c.step.new.self
    c.step.result c.in_ok-carry_out.ensures c.step.ensures.did c.step.ensures.keeps c.step.ensures.during c.step.ensures.since
