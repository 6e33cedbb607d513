use Rattle.std.proofs.Common.{ap, ◌∙◌, sym, ◌++◌}
use Rattle.std.proofs.lemmas.Result.{on_ok_weaker, on_err_weaker}
use Rattle.kernel_trace.specs.Traced.{Sent, with_numbered}
use Rattle.kernel_trace.specs.Fields.{sents}
use Rattle.kernel_trace.proofs.Peers.{AtPeer, at_peer, keeps_input, keeps_sent, input_becomes, sent_here}
use Rattle.kernel_trace.proofs.peer.hear.Goals as goal

pub returns-clause-sent : goal.returns-clause-sent
returns-clause-sent c =
    let at : AtPeer c.args.peers.now.items c.args.number c.index_mut.result.now =
    at_peer c.args.peers.now.items c.args.number c.index_mut.result.now c.requires.some c.requires.within c.index_mut.ensures.value in
    on_ok_weaker c.hear.result
    (λ now. at.sets_sent c.hear.new.self ∙ (ap (with_numbered (sents c.args.peers.now.items) c.args.number) now
    ∙ ap (λ (s : Sent). with_numbered (sents c.args.peers.now.items) c.args.number (record {
      arrived = s.arrived ++ c.args.octets.now;
      released = s.released;
      left = s.left;
    })) (sym (sent_here c.args.peers.now.items c.args.number c.index_mut.result.now at))))
    c.hear.ensures.sent

pub returns-clause-input : goal.returns-clause-input
returns-clause-input c =
    on_ok_weaker c.hear.result
    (λ now. input_becomes c.args.peers.now.items c.args.number c.index_mut.result.now c.hear.new.self _
    (at_peer c.args.peers.now.items c.args.number c.index_mut.result.now c.requires.some c.requires.within c.index_mut.ensures.value)
    now)
    c.hear.ensures.input

pub returns-clause-err_sent : goal.returns-clause-err_sent
returns-clause-err_sent c =
    on_err_weaker c.hear.result
    (λ same. keeps_sent c.args.peers.now.items c.args.number c.index_mut.result.now c.hear.new.self
    (at_peer c.args.peers.now.items c.args.number c.index_mut.result.now c.requires.some c.requires.within c.index_mut.ensures.value)
    same)
    c.hear.ensures.err_sent

pub returns-clause-err_input : goal.returns-clause-err_input
returns-clause-err_input c =
    on_err_weaker c.hear.result
    (λ same. keeps_input c.args.peers.now.items c.args.number c.index_mut.result.now c.hear.new.self
    (at_peer c.args.peers.now.items c.args.number c.index_mut.result.now c.requires.some c.requires.within c.index_mut.ensures.value)
    same)
    c.hear.ensures.err_input
