use Rattle.std.proofs.Common.{Bool, IsTrue, Result, Err, ap, subst, sym, ◌∙◌}
use Rattle.std.proofs.lemmas.Bool.{false≢true}
use Rattle.std.proofs.lemmas.Result.{err_from_is_err_and}
use Rattle.journal.specs.Journal.{IsReady}
use Rattle.world.specs.Draining.{CarriesOut}
use Rattle.world.specs.declared.events.StepError.{StepError}
use Rattle.world.proofs.Settling.{calling_none, calling_on, carried_out, carry_refused, fewer_calls}
use Rattle.world.proofs.World.carry_out.Goals as goal

pub calls-init : goal.calls-init
calls-init g c = calling_none g.D.Disk.device g.D.Disk.write_grows g.D.Disk.sync_grows g.met.D.Disk.only_now c.args.self.now c.kept.ensures

pub calls-smaller : goal.calls-smaller
calls-smaller g c =
    let busy : IsReady c.calls.self.journal → ⊥ =
    λ ready. false≢true (subst (λ (b : Bool). IsTrue b) c.calls-test.true (c.rests.ensures.1 ready)) in
    fewer_calls g.D.Disk.device g.D.Disk.write_grows g.D.Disk.sync_grows c.args.self.now c.calls.self c.step.new.self c.calls.invariant
    busy c.in_ok-step.ensures.keeps c.in_ok-step.ensures.during c.in_ok-step.ensures.since c.in_ok-step.field-0 c.in_ok-step.ensures.did

pub calls-preserved : goal.calls-preserved
calls-preserved g c =
    let busy : IsReady c.calls.self.journal → ⊥ =
    λ ready. false≢true (subst (λ (b : Bool). IsTrue b) c.calls-test.true (c.rests.ensures.1 ready)) in
    calling_on g.D.Disk.device g.D.Disk.write_grows g.D.Disk.sync_grows c.args.self.now c.calls.self c.step.new.self c.calls.invariant
    busy c.in_ok-step.ensures.keeps c.in_ok-step.ensures.during c.in_ok-step.ensures.since c.in_ok-step.field-0 c.in_ok-step.ensures.did

pub returns-in_err-step : goal.returns-in_err-step
returns-in_err-step g c =
    let busy : IsReady c.calls.self.journal → ⊥ =
    λ ready. false≢true (subst (λ (b : Bool). IsTrue b) c.calls-test.true (c.rests.ensures.1 ready)) in
    let p = err_from_is_err_and c.from_residual.result c.from_residual.ensures.1 in
    subst (λ (r : Result (Unit {0}) StepError). CarriesOut g.D.Disk.device g.D.Disk.write_grows g.D.Disk.sync_grows c.args.self.now r
    c.step.new.self) (ap Err (sym p.2) ∙ sym p.1)
    (carry_refused g.D.Disk.device g.D.Disk.write_grows g.D.Disk.sync_grows c.args.self.now c.calls.self c.step.new.self
    c.calls.invariant busy c.step.ensures.keeps c.step.ensures.during c.step.ensures.since _ (rw c.in_err-step.was at c.step.ensures.did))

pub returns : goal.returns
returns g c = carried_out g.D.Disk.device g.D.Disk.write_grows g.D.Disk.sync_grows c.args.self.now c.calls.self c.calls.invariant
    (c.rests.ensures.0 c.calls-test.false)
