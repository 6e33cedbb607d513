use Rattle.std.proofs.Common.{◌≡◌, Some, None, ◌∙◌, sym, subst, rules}
use Rattle.std.specs.Prelude.{MatchOption}
use Rattle.kernel_trace.specs.declared.input.Input.{Input}
use Rattle.kernel_trace.proofs.Peers.{AtPeer, at_peer}
use Rattle.kernel_trace.proofs.peer.found.Goals as goal

pub returns : goal.returns
returns c input is =
    let at : AtPeer c.args.peers.now.items c.args.number c.index.result.now =
    at_peer c.args.peers.now.items c.args.number c.index.result.now c.requires.some c.requires.within c.index.ensures in
    let same : c.index.result.now.input ≡ input = cc (sym at.input ∙ is) in
    subst (λ (x : Input). MatchOption c.as_ref.result (x.message ≡ None) (λ message. x.message ≡ Some message.now)) same (search rules)
