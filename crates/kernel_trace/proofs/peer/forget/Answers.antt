use Rattle.std.proofs.Common.{refl}
use Rattle.kernel_trace.proofs.Peers.{at_peer, keeps_sent, input_becomes}
use Rattle.kernel_trace.proofs.peer.forget.Goals as goal

pub returns-clause-sent : goal.returns-clause-sent
returns-clause-sent c =
    keeps_sent c.args.peers.now.items c.args.number c.index_mut.result.now _
    (at_peer c.args.peers.now.items c.args.number c.index_mut.result.now c.requires.some c.requires.within c.index_mut.ensures.value)
    refl

pub returns-clause-input : goal.returns-clause-input
returns-clause-input c =
    input_becomes c.args.peers.now.items c.args.number c.index_mut.result.now _ _
    (at_peer c.args.peers.now.items c.args.number c.index_mut.result.now c.requires.some c.requires.within c.index_mut.ensures.value)
    refl
