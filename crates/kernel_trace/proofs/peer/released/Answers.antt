use Rattle.std.proofs.Common.{ap, ◌∙◌, sym, arith}
use Rattle.kernel_trace.specs.Traced.{Sent}
use Rattle.kernel_trace.proofs.Peers.{AtPeer, at_peer, sent_here}
use Rattle.kernel_trace.proofs.peer.released.Goals as goal

pub returns : goal.returns
returns c =
    let at : AtPeer c.args.peers.now.items c.args.number c.index.result.now =
    at_peer c.args.peers.now.items c.args.number c.index.result.now (omega (arith, c.if-number-eq0.false))
    (omega (arith, c.if-len-number.false, c.len.ensures)) c.index.ensures in
    c.as_slice.ensures.value ∙ ap (λ (s : Sent). s.released) (sym (sent_here c.args.peers.now.items c.args.number c.index.result.now at))
