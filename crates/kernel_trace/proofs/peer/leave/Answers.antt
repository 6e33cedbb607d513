use Rattle.std.proofs.Common.{ap, ◌∙◌, sym, refl, true}
use Rattle.kernel_trace.specs.Traced.{Sent, with_numbered}
use Rattle.kernel_trace.specs.Fields.{sents}
use Rattle.kernel_trace.proofs.Peers.{AtPeer, at_peer, keeps_input, sent_here}
use Rattle.kernel_trace.proofs.peer.leave.Goals as goal

pub returns-clause-sent : goal.returns-clause-sent
returns-clause-sent c =
    let at : AtPeer c.args.peers.now.items c.args.number c.index_mut.result.now =
    at_peer c.args.peers.now.items c.args.number c.index_mut.result.now c.requires.some c.requires.within c.index_mut.ensures.value in
    at.sets_sent _ ∙ ap (λ (s : Sent). with_numbered (sents c.args.peers.now.items) c.args.number
    (record { arrived = s.arrived; released = s.released; left = true }))
    (sym (sent_here c.args.peers.now.items c.args.number c.index_mut.result.now at))

pub returns-clause-input : goal.returns-clause-input
returns-clause-input c =
    keeps_input c.args.peers.now.items c.args.number c.index_mut.result.now _
    (at_peer c.args.peers.now.items c.args.number c.index_mut.result.now c.requires.some c.requires.within c.index_mut.ensures.value)
    refl
