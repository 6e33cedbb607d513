use Rattle.std.proofs.Common.{Result, Bool, Err, List, ap, length, subst, sym, ◌∙◌}
use Rattle.std.specs.Prelude.{◌==◌, not}
use Rattle.std.proofs.lemmas.Result.{err_from_is_err_and}
use Rattle.kernel_outbox.specs.Queue.{ReadyEntry}
use Rattle.world.specs.Draining.{ReleasesSome}
use Rattle.world.specs.declared.events.StepError.{StepError}
use Rattle.world.proofs.Releases.{release_refused, released_some}
use Rattle.world.proofs.World.release_some.Goals as goal

pub returns-in_err-step : goal.returns-in_err-step
returns-in_err-step g c =
    let p = err_from_is_err_and c.from_residual.result c.from_residual.ensures.1 in
    subst (λ (r : Result Bool StepError). ReleasesSome g.D.Disk.device g.D.Disk.write_grows g.D.Disk.sync_grows c.args.self.now r
    c.step.new.self) (ap Err (sym p.2) ∙ sym p.1)
    (release_refused g.D.Disk.device g.D.Disk.write_grows g.D.Disk.sync_grows c.args.self.now c.step.new.self c.step.ensures.keeps
    c.step.ensures.during c.step.ensures.since _ (rw c.in_err-step.was at c.step.ensures.did))

pub returns : goal.returns
returns g c =
    released_some g.D.Disk.device g.D.Disk.write_grows g.D.Disk.sync_grows c.args.self.now c.step.new.self c.in_ok-step.ensures.keeps
    c.in_ok-step.ensures.during c.in_ok-step.ensures.since c.in_ok-step.field-0 (not c.is_empty.result) c.in_ok-step.ensures.did
    (ap not (c.is_empty.ensures ∙ ap (λ (entries : List ReadyEntry). length entries == 0) c.ready.ensures))
