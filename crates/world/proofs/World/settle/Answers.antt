use Rattle.std.proofs.Common.{Result, Err, ap, subst, sym, ◌∙◌}
use Rattle.std.proofs.lemmas.Result.{err_from_is_err_and}
use Rattle.world.specs.declared.events.StepError.{StepError}
use Rattle.world.proofs.Settled.{Settles, settles, unsettled}
use Rattle.world.proofs.World.settle.Goals as goal

pub returns-in_err-finish_batch : goal.returns-in_err-finish_batch
returns-in_err-finish_batch g c =
    let p = err_from_is_err_and c.from_residual.result c.from_residual.ensures.1 in
    let h : Settles g.D.Disk.device g.D.Disk.write_grows g.D.Disk.sync_grows c.args.self.now c.from_residual.result
    c.finish_batch.new.self =
    subst (λ (r : Result (Unit {0}) StepError). Settles g.D.Disk.device g.D.Disk.write_grows g.D.Disk.sync_grows c.args.self.now r
    c.finish_batch.new.self) (ap Err (sym p.2) ∙ sym p.1)
    (unsettled g.D.Disk.device g.D.Disk.write_grows g.D.Disk.sync_grows c.args.self.now c.finish_batch.new.self _
    (rw c.in_err-finish_batch.was at c.finish_batch.ensures)) in
    record {
      inner = h.inner;
      served = h.served;
      ok = h.ok;
      still = h.still;
      cost = h.cost;
      hindered = h.hindered;
      now = h.now;
      keeps = h.keeps;
    }

pub returns : goal.returns
returns g c =
    let h = settles g.D.Disk.device g.D.Disk.write_grows g.D.Disk.sync_grows c.args.self.now c.finish_batch-2.new.self
    c.finish_batch.new.self c.step.new.self c.step.result c.finish_batch-2.result c.in_ok-finish_batch.ensures c.step.ensures.did
    c.step.ensures.keeps c.step.ensures.during c.step.ensures.since c.finish_batch-2.ensures in
    record {
      inner = h.inner;
      served = h.served;
      ok = h.ok;
      still = h.still;
      cost = h.cost;
      hindered = h.hindered;
      now = h.now;
      keeps = h.keeps;
    }
