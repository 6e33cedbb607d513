use Rattle.kernel_trace.specs.Fields.{inputs, seen}
use Rattle.kernel_trace.proofs.Sound.{sound_committed}
use Rattle.kernel_trace.proofs.TracedKernel.committed.Goals as goal

pub invariant_of-self : goal.invariant_of-self
invariant_of-self c =
    let old = seen c.self.inside in
    sound_committed old c.committed.new.self (inputs c.self.inside.peers.items) c.args.ticket.last c.committed.result c.kept.ensures
    c.committed.ensures.ok c.committed.ensures.stale c.self.invariant
