use Rattle.std.proofs.Common.{◌≡◌, ◌∙◌, sym, refl, Some, false, rules}
use Rattle.std.specs.Prelude.{is_err}
use Rattle.kernel.specs.Kernel.{mode_at}
use Rattle.kernel_trace.specs.Events.{arrives}
use Rattle.kernel_trace.specs.Fields.{inputs, seen}
use Rattle.kernel_trace.proofs.Inputs.{some_some}
use Rattle.kernel_trace.proofs.Sound.{IsSound-along, sound_arrives, at_ok}
use Rattle.kernel_trace.proofs.TracedKernel.arrive.Goals as goal

pub invariant_of-self-2 : goal.invariant_of-self-2
invariant_of-self-2 c =
    let old = seen c.self.inside in
    let mode = some_some c.mode.result (search rules) in
    let is : mode_at c.self.inside.kernel c.args.number ≡ Some mode.0 = sym c.mode.ensures ∙ mode.1 in
    let fine : is_err c.hear.result ≡ false = search rules in
    let sent = at_ok c.hear.result fine c.hear.ensures.sent in
    IsSound-along {old = arrives old c.args.number c.args.octets.now}
    (λ i. record {
      kernel = c.self.inside.kernel;
      first = c.self.inside.first;
      sessions = sent i;
      trace = c.self.inside.trace.items;
      ready = c.self.inside.ready;
    }) refl
    (sound_arrives old (inputs c.self.inside.peers.items) (inputs c.hear.new.peers.items) c.args.number c.args.octets.now mode.0 is
    c.self.invariant (at_ok c.hear.result fine c.hear.ensures.input))
