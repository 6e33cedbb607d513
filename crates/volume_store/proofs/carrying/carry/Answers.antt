use Rattle.std.proofs.Common.{◌≡◌, ◌||◌, Bool, IsTrue, Result, Err, IfErr, OnErr, ap, subst, sym, ◌∙◌}
use Rattle.std.proofs.lemmas.Result.{err_from_is_err_and}
use Rattle.std.proofs.lemmas.Bool.{false≢true}
use Rattle.journal.specs.declared.JournalError.{JournalError}
use Rattle.journal.specs.declared.JournalError.TheVariants.{Memory}
use Rattle.journal.specs.Journal.{IsCaused, IsIdle, IsReady}
use Rattle.volume_store.proofs.OnTheWay.{begun, caused_by, fewer, time_by}
use Rattle.volume_store.proofs.Carried.{begins, carries, goes_on, refused, same_volume, stops, takes_memory}
use Rattle.volume_store.proofs.carrying.carry.Goals as goal

pub calls-init : goal.calls-init
calls-init g c = begins g.D.Disk.device _ (begun g.D.Disk.device _ c.requires.running c.requires.next)

pub calls-smaller : goal.calls-smaller
calls-smaller g c =
    let flies : IsIdle c.calls.journal → ⊥ =
    λ idle. false≢true (subst (λ (b : Bool). IsTrue b) c.calls-test.true
    (c.is_idle.ensures.idle.1 (c.calls.invariant.way.running, idle))) in
    fewer g.D.Disk.device _ _ _ c.calls.invariant.way flies c.in_ok-step.field-0
    (c.in_ok-step.ensures.call c.calls.invariant.way.running flies)

pub calls-preserved : goal.calls-preserved
calls-preserved g c =
    let flies : IsIdle c.calls.journal → ⊥ =
    λ idle. false≢true (subst (λ (b : Bool). IsTrue b) c.calls-test.true
    (c.is_idle.ensures.idle.1 (c.calls.invariant.way.running, idle))) in
    goes_on g.D.Disk.device _ _ _ c.calls.invariant flies c.in_ok-step.field-0
    (c.in_ok-step.ensures.call c.calls.invariant.way.running flies) c.in_ok-step.ensures.since

pub returns-in_err-step-clause-err : goal.returns-in_err-step-clause-err
returns-in_err-step-clause-err g c =
    let flies : IsIdle c.calls.journal → ⊥ =
    λ idle. false≢true (subst (λ (b : Bool). IsTrue b) c.calls-test.true
    (c.is_idle.ensures.idle.1 (c.calls.invariant.way.running, idle))) in
    let running = c.calls.invariant.way.running in
    let p = err_from_is_err_and c.from_residual.result c.from_residual.ensures.1 in
    subst (λ (r : Result (Unit {0}) JournalError).
    IfErr r (λ error. IsCaused error (g.D.Disk.device c.args.journal.now.disk) (g.D.Disk.device c.step.new.self.disk)))
    (ap Err (sym p.2) ∙ sym p.1)
    (caused_by g.D.Disk.device _ _ _ c.calls.invariant.way flies _ (rw c.in_err-step.was at c.step.ensures.call running flies)
    (rw c.in_err-step.was at c.step.ensures.retried running flies) (rw c.in_err-step.was at c.step.ensures.no_other running))

pub returns-in_err-step-clause-since : goal.returns-in_err-step-clause-since
returns-in_err-step-clause-since g c =
    let flies : IsIdle c.calls.journal → ⊥ =
    λ idle. false≢true (subst (λ (b : Bool). IsTrue b) c.calls-test.true
    (c.is_idle.ensures.idle.1 (c.calls.invariant.way.running, idle))) in
    let running = c.calls.invariant.way.running in
    refused g.D.Disk.device _ _ _ c.calls.invariant flies _ (rw c.in_err-step.was at c.step.ensures.call running flies)
    (rw c.in_err-step.was at c.step.ensures.retried running flies)
    (rw c.in_err-step.was at c.step.ensures.no_other running) c.step.ensures.since

pub returns-in_err-step-clause-memory : goal.returns-in_err-step-clause-memory
returns-in_err-step-clause-memory g c =
    let p = err_from_is_err_and c.from_residual.result c.from_residual.ensures.1 in
    subst (λ (r : Result (Unit {0}) JournalError).
    IfErr r (λ error. error ≡ Memory → IsTrue (g.D.Disk.write_grows || g.D.Disk.sync_grows)))
    (ap Err (sym p.2) ∙ sym p.1)
    (λ is. takes_memory c.calls.journal.next g.D.Disk.write_grows g.D.Disk.sync_grows (rw c.in_err-step.was at c.step.ensures.memory is))

pub returns-clause-ok : goal.returns-clause-ok
returns-clause-ok g c = carries g.D.Disk.device _ _ c.calls.invariant (c.is_idle.ensures.idle.0 c.calls-test.false) c.is_idle.ensures.now

pub returns-clause-since : goal.returns-clause-since
returns-clause-since g c = c.calls.invariant.since

pub returns-in_err-step-clause-stopped : goal.returns-in_err-step-clause-stopped
returns-in_err-step-clause-stopped g c =
    let flies : IsIdle c.calls.journal → ⊥ =
    λ idle. false≢true (subst (λ (b : Bool). IsTrue b) c.calls-test.true
    (c.is_idle.ensures.idle.1 (c.calls.invariant.way.running, idle))) in
    let running = c.calls.invariant.way.running in
    let p = err_from_is_err_and c.from_residual.result c.from_residual.ensures.1 in
    subst (λ (r : Result (Unit {0}) JournalError). OnErr r (IsReady c.step.new.self → ⊥)) (ap Err (sym p.2) ∙ sym p.1)
    (stops g.D.Disk.device _ _ _ c.calls.invariant flies _ (rw c.in_err-step.was at c.step.ensures.call running flies)
    (rw c.in_err-step.was at c.step.ensures.retried running flies) (rw c.in_err-step.was at c.step.ensures.no_other running))

pub returns-in_err-step-clause-same : goal.returns-in_err-step-clause-same
returns-in_err-step-clause-same g c =
    let flies : IsIdle c.calls.journal → ⊥ =
    λ idle. false≢true (subst (λ (b : Bool). IsTrue b) c.calls-test.true
    (c.is_idle.ensures.idle.1 (c.calls.invariant.way.running, idle))) in
    let running = c.calls.invariant.way.running in
    same_volume g.D.Disk.device _ _ _ c.calls.invariant _ (rw c.in_err-step.was at c.step.ensures.call running flies)
    (rw c.in_err-step.was at c.step.ensures.retried running flies) (rw c.in_err-step.was at c.step.ensures.no_other running)

pub returns-clause-same : goal.returns-clause-same
returns-clause-same g c =
    let same = c.calls.invariant.way.same in
    record { label = same.label; format = same.format; size = same.size }

pub returns-in_err-step-clause-time : goal.returns-in_err-step-clause-time
returns-in_err-step-clause-time g c =
    let flies : IsIdle c.calls.journal → ⊥ =
    λ idle. false≢true (subst (λ (b : Bool). IsTrue b) c.calls-test.true
    (c.is_idle.ensures.idle.1 (c.calls.invariant.way.running, idle))) in
    let running = c.calls.invariant.way.running in
    time_by g.D.Disk.device _ _ _ c.calls.invariant.way flies _ (rw c.in_err-step.was at c.step.ensures.call running flies)
    (rw c.in_err-step.was at c.step.ensures.retried running flies) (rw c.in_err-step.was at c.step.ensures.no_other running)

pub returns-clause-time : goal.returns-clause-time
returns-clause-time g c = c.calls.invariant.way.time
