use Rattle.std.proofs.Common.{◌≡◌, Bool, ap, length, sym, ◌∙◌}
use Rattle.std.specs.Prelude.{None, Some, if◌then◌else◌}
use Rattle.kernel_shared.specs.declared.errors.ExecError.TheVariants.{Memory}
use Rattle.kernel.specs.Errors.{of_exec}
use Rattle.kernel.specs.Kernel.{Execs, exec_refusal}
use Rattle.kernel_locked.specs.Locked.{Answers}
use Rattle.kernel_locked.proofs.Answering.{tested_so}
use Rattle.kernel_locked.proofs.locked.answer_in.Goals as goal
use Rattle.kernel_locked.proofs.locked.answer_in.Goals.{else-has_accepted, then-has_accepted}

pub returns-clause-fits : goal.returns-clause-fits
returns-clause-fits c fits =
    let old = c.args.kernel.now in
    let served = c.exec_received.new.self in
    let new = c.give_ready_in-is_held.new in
    let serial = λ (is : Bool). if is then Some (length served.spool) else None in
    let accepted : c.if-has_accepted.accepted ≡ serial c.in_ok-next.field-0.has_accepted =
    elim c.if-has_accepted.branch [
      | then-has_accepted w ↦ w.accepted-is ∙ ap Some w.len.ensures ∙ sym (ap serial w.if-has_accepted.true)
      | else-has_accepted w ↦ w.accepted-is ∙ sym (ap serial w.if-has_accepted.false)
    ] in
    tested_so of_exec Memory (exec_refusal old c.args.sid c.args.received) old served new.kernel c.in_ok-next.field-0 _
    (Execs old served c.args.sid c.args.received c.args.moment)
    (Answers old new.kernel c.args.sid c.args.received c.args.moment c.args.into.now new.into)
    (λ executed. record {
      served = served;
      has_accepted = c.in_ok-next.field-0.has_accepted;
      executed = executed;
      accepted = accepted;
      given = c.give_ready_in-is_held.ensures;
    })
    c.in_ok-next.ensures
