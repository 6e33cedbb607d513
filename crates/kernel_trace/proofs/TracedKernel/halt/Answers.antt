use Rattle.std.proofs.Common.{sym, subst}
use Rattle.kernel.specs.Kernel.{KernelView}
use Rattle.kernel_trace.specs.Events.{with_kernel}
use Rattle.kernel_trace.specs.Fields.{IsSound, inputs, seen}
use Rattle.kernel_trace.proofs.Sound.{sound_halts}
use Rattle.kernel_trace.specs.Fields.{sents}
use Rattle.kernel_trace.proofs.TracedKernel.halt.Goals as goal

pub invariant_of-self : goal.invariant_of-self
invariant_of-self c =
    let old = seen c.self.inside in
    subst (λ (k : KernelView). IsSound (with_kernel old k) (inputs c.self.inside.peers.items)) (sym c.halt.ensures)
    (sound_halts old (inputs c.self.inside.peers.items) c.self.invariant)
