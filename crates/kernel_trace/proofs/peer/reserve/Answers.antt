use Rattle.std.proofs.Common.{refl}
use Rattle.std.proofs.lemmas.Result.{on_ok_weaker}
use Rattle.kernel_trace.proofs.Peers.{at_peer, keeps_input, keeps_sent}
use Rattle.kernel_trace.proofs.Room.{room_here, room_stays}
use Rattle.kernel_trace.proofs.peer.reserve.Goals as goal

pub returns-clause-sent : goal.returns-clause-sent
returns-clause-sent c =
    keeps_sent c.args.peers.now.items c.args.number c.index_mut.result.now _
    (at_peer c.args.peers.now.items c.args.number c.index_mut.result.now c.requires.some c.requires.within c.index_mut.ensures.value)
    (λ i. record {
      arrived = c.index_mut.result.now.arrived.items;
      released = c.reserve.ensures.items i;
      left = c.index_mut.result.now.left;
    })

pub returns-clause-input : goal.returns-clause-input
returns-clause-input c = keeps_input c.args.peers.now.items c.args.number c.index_mut.result.now _
    (at_peer c.args.peers.now.items c.args.number c.index_mut.result.now c.requires.some c.requires.within c.index_mut.ensures.value) refl

pub returns-clause-room : goal.returns-clause-room
returns-clause-room c = on_ok_weaker c.reserve.result
    (λ le. room_here c.args.peers.now.items c.args.number c.index_mut.result.now _
    (at_peer c.args.peers.now.items c.args.number c.index_mut.result.now c.requires.some c.requires.within c.index_mut.ensures.value) 65536
    le) c.reserve.ensures.ok

pub returns-clause-others : goal.returns-clause-others
returns-clause-others c k needed =
    room_stays c.args.peers.now.items c.args.number c.index_mut.result.now _
    (at_peer c.args.peers.now.items c.args.number c.index_mut.result.now c.requires.some c.requires.within c.index_mut.ensures.value)
    c.reserve.ensures.len c.reserve.ensures.capacity k needed
