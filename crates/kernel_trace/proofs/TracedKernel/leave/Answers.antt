use Rattle.std.proofs.Common.{◌≡◌, ◌∙◌, sym, subst, None, arith}
use Rattle.kernel.specs.Kernel.{seat_of}
use Rattle.model.proofs.LawfulLaws.{none_by_test}
use Rattle.kernel_trace.specs.Events.{leaves}
use Rattle.kernel_trace.specs.Fields.{inputs, seen}
use Rattle.kernel_trace.specs.Traced.{TracedView}
use Rattle.kernel_trace.proofs.Inputs.{some_some}
use Rattle.kernel_trace.proofs.Peers.{same-length}
use Rattle.kernel_trace.proofs.Sound.{IsSound-along, leaves_none, leaves_there, sound_leaves, there_numbered}
use Rattle.kernel_trace.proofs.TracedKernel.leave.Goals as goal

pub returns-then-not-has : goal.returns-then-not-has
returns-then-not-has c =
    let old = seen c.self.inside in
    let none : seat_of c.self.inside.kernel c.args.number ≡ None = none_by_test _ (sym c.has.ensures ∙ c.if-not-has.true) in
    subst (λ (s : TracedView). s ≡ leaves s c.args.number) c.self.view_is (sym (leaves_none old c.args.number none))

pub leave-requires-clause-within : goal.leave-requires-clause-within
leave-requires-clause-within c =
    let old = seen c.self.inside in
    let seat = some_some (seat_of c.self.inside.kernel c.args.number) (sym c.has.ensures ∙ c.if-not-has.false) in
    let place = there_numbered old (inputs c.self.inside.peers.items) c.args.number seat.0 seat.1 c.self.invariant in
    omega (arith, place.1, same-length c.self.inside.peers.items)

pub invariant_of-self : goal.invariant_of-self
invariant_of-self c =
    let old = seen c.self.inside in
    let seat = some_some (seat_of c.self.inside.kernel c.args.number) (sym c.has.ensures ∙ c.if-not-has.false) in
    IsSound-along {old = leaves old c.args.number}
    (λ i. record {
      kernel = c.leave-2.ensures i;
      first = c.self.inside.first;
      sessions = (c.leave.ensures.sent ∙ sym (leaves_there old c.args.number seat.0 seat.1)) i;
      trace = c.self.inside.trace.items;
      ready = c.self.inside.ready;
    })
    c.leave.ensures.input
    (sound_leaves old (inputs c.self.inside.peers.items) c.args.number c.self.invariant)
