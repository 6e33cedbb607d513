use Rattle.std.proofs.Common.{refl}
use Rattle.std.proofs.lemmas.Result.{IfOk-weaker}
use Rattle.kernel_trace.proofs.Peers.{AtPeer, at_peer, keeps_sent, input_becomes}
use Rattle.kernel_trace.proofs.peer.find.Goals as goal

pub find-requires : goal.find-requires
find-requires c =
    let at : AtPeer c.args.peers.now.items c.args.number c.index_mut.result.now =
    at_peer c.args.peers.now.items c.args.number c.index_mut.result.now c.requires.some c.requires.within c.index_mut.ensures.value in
    c.requires.may c.index_mut.result.now.input at.input

pub returns-clause-sent : goal.returns-clause-sent
returns-clause-sent c =
    keeps_sent c.args.peers.now.items c.args.number c.index_mut.result.now _
    (at_peer c.args.peers.now.items c.args.number c.index_mut.result.now c.requires.some c.requires.within c.index_mut.ensures.value)
    refl

pub returns-clause-input : goal.returns-clause-input
returns-clause-input c =
    IfOk-weaker c.find.result _ _
    (λ found now. input_becomes c.args.peers.now.items c.args.number c.index_mut.result.now _ _
    (at_peer c.args.peers.now.items c.args.number c.index_mut.result.now c.requires.some c.requires.within c.index_mut.ensures.value)
    now)
    c.find.ensures.found
