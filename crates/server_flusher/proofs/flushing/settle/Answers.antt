use Rattle.std.proofs.Common.{◌∙◌, refl, sym}
use Rattle.journal.proofs.During.{after_the_commit, stepped_on}
use Rattle.server_flusher.proofs.Committing.{has_call, settles_on, settling_failed}
use Rattle.server_flusher.proofs.flushing.settle.Goals as goal

pub returns-then-has_failed-clause-during : goal.returns-then-has_failed-clause-during
returns-then-has_failed-clause-during g c =
    let running = c.calls.invariant.running in
    let moves = has_call c.calls.journal c.is_idle.result c.is_idle.ensures.idle c.if-is_idle.false running in
    stepped_on g.D.Disk.device _ _ _ c.calls.invariant moves c.step.result
    (c.step.ensures.call running moves) (c.step.ensures.retried running moves) (c.step.ensures.no_other running)

pub returns-then-has_failed-clause-err : goal.returns-then-has_failed-clause-err
returns-then-has_failed-clause-err g c =
    let running = c.calls.invariant.running in
    let moves = has_call c.calls.journal c.is_idle.result c.is_idle.ensures.idle c.if-is_idle.false running in (
      refl,
      settling_failed g.D.Disk.device _ _ _ c.calls.invariant c.step.result (sym c.has_failed.ensures ∙ c.if-has_failed.true)
          (c.step.ensures.call running moves) (c.step.ensures.no_other running),
    )

pub calls-preserved : goal.calls-preserved
calls-preserved g c =
    let running = c.calls.invariant.running in
    let moves = has_call c.calls.journal c.is_idle.result c.is_idle.ensures.idle c.if-is_idle.false running in
    settles_on g.D.Disk.device _ _ _ c.calls.invariant moves c.step.result (sym c.has_failed.ensures ∙ c.if-has_failed.false)
    (c.step.ensures.call running moves) (c.step.ensures.retried running moves)

pub calls-init : goal.calls-init
calls-init g c = after_the_commit g.D.Disk.device _ c.requires.next c.requires.running c.requires.now
