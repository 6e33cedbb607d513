use Rattle.kernel_trace.specs.Fields.{inputs, seen}
use Rattle.kernel_trace.proofs.Peers.{IfSome-map}
use Rattle.kernel_trace.proofs.Sound.{sound_batch}
use Rattle.kernel_trace.proofs.TracedKernel.take_batch.Goals as goal

pub invariant_of-self : goal.invariant_of-self
invariant_of-self c =
    let old = seen c.self.inside in
    sound_batch old c.take_batch.new.self (inputs c.self.inside.peers.items) c.take_batch.result
    (λ none. (c.take_batch.ensures.nothing none).0)
    (IfSome-map c.take_batch.result (λ ticket takes. takes.kernel) c.take_batch.ensures.takes) c.self.invariant
