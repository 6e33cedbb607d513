use Rattle.std.proofs.Common.{◌≡◌, ap, ◌∙◌, sym, refl, subst, Option, Some, None, arith, ◌++◌, ◌∷◌, []}
use Rattle.std.specs.Prelude.{Ok, Err, Result}
use Rattle.std.proofs.lemmas.Result.{err_from_is_err_and}
use Rattle.std.proofs.lemmas.Option.{MatchOption-at_none}
use Rattle.kernel_seats.specs.declared.Outcome.{Outcome}
use Rattle.kernel.specs.Errors.{of_exec}
use Rattle.kernel.specs.Kernel.{exec_refusal}
use Rattle.kernel_shared.specs.declared.errors.ExecError.{ExecError}
use Rattle.kernel_shared.specs.declared.errors.ExecError.TheVariants.{Memory}
use Rattle.kernel_trace.specs.Fields.{inputs, seen, view_of}
use Rattle.kernel_trace.specs.Traced.{TracedView}
use Rattle.kernel_trace.proofs.Peers.{same-length}
use Rattle.kernel_trace.proofs.Sound.{DidAt, IsSound-along, did_none, did_refused, did_serve, found_message, found_none, found_some}
use Rattle.kernel_trace.proofs.Sound.{look_some, same_fields, sound_found, sound_serves, tested_err, tested_ok, within}
use Rattle.kernel_trace.proofs.TracedKernel.exec.Goals as goal

pub invariant_of-self-then-not-is_found : goal.invariant_of-self-then-not-is_found
invariant_of-self-then-not-is_found c =
    let l = sound_found _ _ (inputs c.find.new.peers.items) c.args.number c.in-Some.mode c.in-Ok.is_found c.self.invariant
    (sym c.mode.ensures ∙ c.in-Some.is) c.in-Ok.ensures.input in
    IsSound-along (same_fields c.self.inside refl c.find.ensures.sent refl) refl l.sound

pub returns-then-not-is_found : goal.returns-then-not-is_found
returns-then-not-is_found c =
    let old = seen c.self.inside in
    let l = sound_found _ _ (inputs c.find.new.peers.items) c.args.number c.in-Some.mode c.in-Ok.is_found c.self.invariant
    (sym c.mode.ensures ∙ c.in-Some.is) c.in-Ok.ensures.input in
    let after = view_of c.self.inside.kernel c.self.inside.first c.find.new.peers.items c.self.inside.trace.items c.self.inside.ready in
    subst (λ (s : TracedView). DidAt s c.args.number c.args.moment (Ok None) after) c.self.view_is
    (did_none old after c.args.number c.args.moment c.in-Some.mode l.awaits (found_none l c.if-not-is_found.true)
    (same_fields c.self.inside refl c.find.ensures.sent refl))

pub invariant_of-self-then-is_err : goal.invariant_of-self-then-is_err
invariant_of-self-then-is_err c =
    let l = sound_found _ _ (inputs c.find.new.peers.items) c.args.number c.in-Some.mode c.in-Ok.is_found c.self.invariant
    (sym c.mode.ensures ∙ c.in-Some.is) c.in-Ok.ensures.input in
    IsSound-along (same_fields c.self.inside refl c.find.ensures.sent c.reserve.ensures.items) refl l.sound

pub found-requires-clause-within : goal.found-requires-clause-within
found-requires-clause-within c =
    let l = sound_found _ _ (inputs c.find.new.peers.items) c.args.number c.in-Some.mode c.in-Ok.is_found c.self.invariant
    (sym c.mode.ensures ∙ c.in-Some.is) c.in-Ok.ensures.input in
    omega (arith, within l, same-length c.find.new.peers.items)

pub invariant_of-self-in_default-found : goal.invariant_of-self-in_default-found
invariant_of-self-in_default-found c =
    let l = sound_found _ _ (inputs c.find.new.peers.items) c.args.number c.in-Some.mode c.in-Ok.is_found c.self.invariant
    (sym c.mode.ensures ∙ c.in-Some.is) c.in-Ok.ensures.input in
    IsSound-along (same_fields c.self.inside refl c.find.ensures.sent c.reserve.ensures.items) refl l.sound

pub returns-in_default-found : goal.returns-in_default-found
returns-in_default-found c =
    let l = sound_found _ _ (inputs c.find.new.peers.items) c.args.number c.in-Some.mode c.in-Ok.is_found c.self.invariant
    (sym c.mode.ensures ∙ c.in-Some.is) c.in-Ok.ensures.input in
    absurd (found_some l c.if-not-is_found.false (MatchOption-at_none (l.input.message ≡ None) (λ m. l.input.message ≡ Some m.now)
    c.in_default-found.is (c.found.ensures l.input l.at)))

pub exec-requires : goal.exec-requires
exec-requires c =
    let l = sound_found _ _ (inputs c.find.new.peers.items) c.args.number c.in-Some.mode c.in-Ok.is_found c.self.invariant
    (sym c.mode.ensures ∙ c.in-Some.is) c.in-Ok.ensures.input in
    let there = found_message l c.in-Some-found.message.now c.if-not-is_found.false (look_some c.found.result c.in-Some-found.message
    (l.input.message ≡ None) (λ m. l.input.message ≡ Some m.now) c.in-Some-found.is (c.found.ensures l.input l.at)) in
    there.fits

pub invariant_of-self-in_err-outcome : goal.invariant_of-self-in_err-outcome
invariant_of-self-in_err-outcome c =
    let l = sound_found _ _ (inputs c.find.new.peers.items) c.args.number c.in-Some.mode c.in-Ok.is_found c.self.invariant
    (sym c.mode.ensures ∙ c.in-Some.is) c.in-Ok.ensures.input in
    let refused = tested_err of_exec Memory (exec_refusal c.self.inside.kernel c.args.number c.in-Some-found.message.now)
    c.self.inside.kernel c.exec.new.self c.in_err-outcome.field-0.0 _ c.in_err-outcome.ensures in
    IsSound-along (same_fields c.self.inside refused.1 c.find.ensures.sent c.reserve.ensures.items) refl l.sound

pub returns-in_err-outcome : goal.returns-in_err-outcome
returns-in_err-outcome c =
    let l = sound_found _ _ (inputs c.find.new.peers.items) c.args.number c.in-Some.mode c.in-Ok.is_found c.self.invariant
    (sym c.mode.ensures ∙ c.in-Some.is) c.in-Ok.ensures.input in
    let there = found_message l c.in-Some-found.message.now c.if-not-is_found.false (look_some c.found.result c.in-Some-found.message
    (l.input.message ≡ None) (λ m. l.input.message ≡ Some m.now) c.in-Some-found.is (c.found.ensures l.input l.at)) in
    let refused = tested_err of_exec Memory (exec_refusal c.self.inside.kernel c.args.number c.in-Some-found.message.now)
    c.self.inside.kernel c.exec.new.self c.in_err-outcome.field-0.0 _ c.in_err-outcome.ensures in
    let after = view_of c.exec.new.self c.self.inside.first c.find.new.peers.items c.reserve.new.self.items c.self.inside.ready in
    let did = did_refused (seen c.self.inside) after c.args.number c.args.moment c.in-Some.mode (c.in-Some-found.message.now, there.rest)
    c.in_err-outcome.field-0.0 l.awaits there.next_is
    (refused.0, same_fields c.self.inside refused.1 c.find.ensures.sent c.reserve.ensures.items) in
    let p = err_from_is_err_and c.from_residual.result c.from_residual.ensures.1 in
    subst (λ (t : TracedView × Result (Option Outcome) ExecError). DidAt t.0 c.args.number c.args.moment t.1 after)
    (λ i. (c.self.view_is i, (ap Err (sym p.2) ∙ sym p.1) i)) did

pub forget-requires-clause-within : goal.forget-requires-clause-within
forget-requires-clause-within c =
    let l = sound_found _ _ (inputs c.find.new.peers.items) c.args.number c.in-Some.mode c.in-Ok.is_found c.self.invariant
    (sym c.mode.ensures ∙ c.in-Some.is) c.in-Ok.ensures.input in
    omega (arith, within l, same-length c.find.new.peers.items)

pub invariant_of-self-2 : goal.invariant_of-self-2
invariant_of-self-2 c =
    let l = sound_found _ _ (inputs c.find.new.peers.items) c.args.number c.in-Some.mode c.in-Ok.is_found c.self.invariant
    (sym c.mode.ensures ∙ c.in-Some.is) c.in-Ok.ensures.input in
    let there = found_message l c.in-Some-found.message.now c.if-not-is_found.false (look_some c.found.result c.in-Some-found.message
    (l.input.message ≡ None) (λ m. l.input.message ≡ Some m.now) c.in-Some-found.is (c.found.ensures l.input l.at)) in
    let done = tested_ok of_exec Memory (exec_refusal c.self.inside.kernel c.args.number c.in-Some-found.message.now) c.self.inside.kernel
    c.exec.new.self c.in_ok-outcome.outcome _ c.in_ok-outcome.ensures in
    let after = view_of c.exec.new.self c.self.inside.first c.forget.new.peers.items c.push_reserved.new.self.items c.self.inside.ready in
    sound_serves (seen c.self.inside) after (inputs c.find.new.peers.items) (inputs c.forget.new.peers.items) c.args.number c.args.moment
    c.in-Some-found.message.now there.rest c.in_ok-outcome.outcome there.input there.next_is
    (record {
      kernel = done.1;
      trace = c.push_reserved.ensures.items ∙ (λ i. c.reserve.ensures.items i ++ c.new.ensures i ∷ []);
      first = refl;
      sessions = c.forget.ensures.sent ∙ c.find.ensures.sent;
      ready = refl;
    })
    c.seconds-seconds.ensures.limit l.sound there.at c.forget.ensures.input there.waits

pub returns : goal.returns
returns c =
    let old = seen c.self.inside in
    let l = sound_found _ _ (inputs c.find.new.peers.items) c.args.number c.in-Some.mode c.in-Ok.is_found c.self.invariant
    (sym c.mode.ensures ∙ c.in-Some.is) c.in-Ok.ensures.input in
    let there = found_message l c.in-Some-found.message.now c.if-not-is_found.false (look_some c.found.result c.in-Some-found.message
    (l.input.message ≡ None) (λ m. l.input.message ≡ Some m.now) c.in-Some-found.is (c.found.ensures l.input l.at)) in
    let done = tested_ok of_exec Memory (exec_refusal c.self.inside.kernel c.args.number c.in-Some-found.message.now) c.self.inside.kernel
    c.exec.new.self c.in_ok-outcome.outcome _ c.in_ok-outcome.ensures in
    let after = view_of c.exec.new.self c.self.inside.first c.forget.new.peers.items c.push_reserved.new.self.items c.self.inside.ready in
    subst (λ (s : TracedView). DidAt s c.args.number c.args.moment (Ok (Some c.in_ok-outcome.outcome)) after) c.self.view_is
    (did_serve old after c.args.number c.args.moment c.in-Some.mode (c.in-Some-found.message.now, there.rest) c.in_ok-outcome.outcome
    l.awaits there.next_is done.0
    (record {
      kernel = done.1;
      trace = c.push_reserved.ensures.items ∙ (λ i. c.reserve.ensures.items i ++ c.new.ensures i ∷ []);
      first = refl;
      sessions = c.forget.ensures.sent ∙ c.find.ensures.sent;
      ready = refl;
    }))
