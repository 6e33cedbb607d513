use Rattle.std.proofs.Common.{◌++◌, ◌∷◌, [], ◌∙◌, refl}
use Rattle.kernel_trace.specs.Fields.{inputs, seen}
use Rattle.kernel_trace.proofs.Sound.{sound_makes}
use Rattle.kernel_trace.proofs.TracedKernel.admin.Goals as goal

pub invariant_of-self-2 : goal.invariant_of-self-2
invariant_of-self-2 c =
    let old = seen c.self.inside in
    let done = c.in_ok-serial.ensures.1 in
    sound_makes old _ (inputs c.self.inside.peers.items) _ c.in_ok-serial.serial
    (record {
      kernel = done;
      trace = c.push_reserved.ensures.items ∙ (λ i. c.reserve.ensures.items i ++ c.in-Ok.ensures i ∷ []);
      first = refl;
      sessions = refl;
      ready = refl;
    })
    c.self.invariant
