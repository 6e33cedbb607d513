use Rattle.std.proofs.Common.{◌≡◌, ap, ◌∙◌, sym, refl, true, ◌++◌, ◌+◌, length}
use Rattle.std.specs.Prelude.{is_ok, vec_len, if◌then◌else◌}
use Rattle.kernel_trace.specs.Traced.{Sent, with_numbered}
use Rattle.kernel_trace.specs.Fields.{sents}
use Rattle.kernel_trace.proofs.Peers.{AtPeer, at_peer, keeps_input, sent_here}
use Rattle.kernel_trace.proofs.Room.{room_after}
use Rattle.kernel_trace.proofs.peer.file_one.Goals as goal

pub returns-clause-sent : goal.returns-clause-sent
returns-clause-sent c =
    let at : AtPeer c.args.peers.now.items c.args.number c.index_mut.result.now =
    at_peer c.args.peers.now.items c.args.number c.index_mut.result.now c.requires.some c.requires.within c.index_mut.ensures.value in
    let fine : is_ok c.extend_from_slice.result ≡ true =
    c.extend_from_slice.ensures.succeeds (c.requires.room c.index_mut.result.now at.peer) in
    let items : c.extend_from_slice.new.self.items ≡ c.index_mut.result.now.released.items ++ c.args.octets.now =
    c.extend_from_slice.ensures.items
    ∙ ap (λ b. if b then c.index_mut.result.now.released.items ++ c.args.octets.now else c.index_mut.result.now.released.items) fine in
    at.sets_sent _ ∙ (ap (λ xs. with_numbered (sents c.args.peers.now.items) c.args.number
    (record { arrived = c.index_mut.result.now.arrived.items; released = xs; left = c.index_mut.result.now.left })) items
    ∙ ap (λ (s : Sent). with_numbered (sents c.args.peers.now.items) c.args.number
    (record { arrived = s.arrived; released = s.released ++ c.args.octets.now; left = s.left }))
    (sym (sent_here c.args.peers.now.items c.args.number c.index_mut.result.now at)))

pub returns-clause-input : goal.returns-clause-input
returns-clause-input c = keeps_input c.args.peers.now.items c.args.number c.index_mut.result.now _
    (at_peer c.args.peers.now.items c.args.number c.index_mut.result.now c.requires.some c.requires.within c.index_mut.ensures.value) refl

pub returns-clause-room : goal.returns-clause-room
returns-clause-room c needed have =
    let at : AtPeer c.args.peers.now.items c.args.number c.index_mut.result.now =
    at_peer c.args.peers.now.items c.args.number c.index_mut.result.now c.requires.some c.requires.within c.index_mut.ensures.value in
    let fine : is_ok c.extend_from_slice.result ≡ true =
    c.extend_from_slice.ensures.succeeds (c.requires.room c.index_mut.result.now at.peer) in
    let len : vec_len c.extend_from_slice.new.self ≡ vec_len c.index_mut.result.now.released + length c.args.octets.now =
    c.extend_from_slice.ensures.len
    ∙ ap (λ b. if b then vec_len c.index_mut.result.now.released + length c.args.octets.now else vec_len
    c.index_mut.result.now.released) fine in
    room_after c.args.peers.now.items c.args.number c.index_mut.result.now _ at
    (length c.args.octets.now) needed len c.extend_from_slice.ensures.capacity have
