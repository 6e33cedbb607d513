use Rattle.std.proofs.Common.{◌≡◌, ap, ◌++◌, ◌∷◌, [], ◌∙◌, List}
use Rattle.std.proofs.lemmas.List.{map-append}
use Rattle.kernel.specs.Errors.{of_join}
use Rattle.kernel.specs.Kernel.{join_refusal, joined}
use Rattle.kernel_shared.specs.declared.errors.JoinError.TheVariants.{Memory}
use Rattle.kernel_trace.specs.Events.{joins}
use Rattle.kernel_trace.specs.Fields.{inputs, seen, sent_of, sents}
use Rattle.kernel_trace.specs.Traced.{Sent, nobody}
use Rattle.kernel_trace.specs.declared.peer.Peer.{Peer}
use Rattle.kernel_trace.proofs.Sound.{IsSound-along, sound_joins, tested_ok}
use Rattle.kernel_trace.proofs.TracedKernel.join.Goals as goal

pub invariant_of-self-2 : goal.invariant_of-self-2
invariant_of-self-2 c =
    let old = seen c.self.inside in
    let done = tested_ok of_join Memory (join_refusal c.self.inside.kernel) c.self.inside.kernel c.join.new.self c.in_ok-number.number _
    c.in_ok-number.ensures in
    let kernel : c.join.new.self ≡ joined c.self.inside.kernel = done.1.1 in
    let items : c.push_reserved.new.self.items ≡ c.self.inside.peers.items ++ c.new.result ∷ [] = c.push_reserved.ensures.items
    ∙ ap (λ (xs : List Peer). xs ++ c.new.result ∷ []) c.reserve.ensures.items in
    let sessions : sents c.push_reserved.new.self.items ≡ sents c.self.inside.peers.items ++ nobody ∷ [] =
    ap sents items ∙ (map-append sent_of c.self.inside.peers.items (c.new.result ∷ [])
    ∙ ap (λ (s : Sent). sents c.self.inside.peers.items ++ s ∷ []) c.new.ensures.sent) in
    let its_inputs : inputs c.push_reserved.new.self.items ≡ inputs c.self.inside.peers.items ++ c.new.result.input ∷ [] =
    ap inputs items ∙ map-append (λ (peer : Peer). peer.input) c.self.inside.peers.items (c.new.result ∷ []) in
    IsSound-along {old = joins old} (λ i. record {
      kernel = kernel i;
      first = c.self.inside.first;
      sessions = sessions i;
      trace = c.self.inside.trace.items;
      ready = c.self.inside.ready;
    }) its_inputs
    (sound_joins old (inputs c.self.inside.peers.items) c.new.result.input c.new.ensures.input c.self.invariant)
