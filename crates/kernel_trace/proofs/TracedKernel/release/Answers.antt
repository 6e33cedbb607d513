use Rattle.std.proofs.Common.{◌∙◌, sym, subst, List, length}
use Rattle.kernel_outbox.specs.Queue.{ReadyEntry}
use Rattle.kernel_trace.specs.Events.{releases, with_released}
use Rattle.kernel_trace.specs.Fields.{AreKnown, HaveRoom, given_in, inputs, seen, sents}
use Rattle.kernel_trace.specs.Traced.{Sent}
use Rattle.kernel_trace.proofs.Room.{ready_room}
use Rattle.kernel_trace.proofs.Sessions.{ready_known}
use Rattle.kernel_trace.proofs.Sound.{IsSound-along, sound_releases}
use Rattle.kernel_trace.proofs.TracedKernel.release.Goals as goal

pub file-requires-clause-known : goal.file-requires-clause-known
file-requires-clause-known c =
    subst (λ (t : List Sent × List ReadyEntry). AreKnown t.0 t.1) (λ i. (sym c.make_room.ensures.sent i, sym c.take_ready.ensures.given i))
    (ready_known c.self.inside.kernel.host c.self.inside.kernel.spool c.self.inside.kernel.joined c.self.inside.kernel.durable 65536
    (sents c.self.inside.peers.items) c.self.inside.kernel.seats c.self.invariant.beside.numbers c.kept.ensures.seats)

pub file-requires-clause-room : goal.file-requires-clause-room
file-requires-clause-room c =
    subst (λ (es : List ReadyEntry). HaveRoom c.make_room.new.peers.items (λ number. length (given_in number es)))
    (sym c.take_ready.ensures.given)
    (ready_room c.self.inside.kernel.seats c.self.inside.kernel.durable c.make_room.new.peers.items c.kept.ensures.rising
    c.in_ok-make_room.ensures.room)

pub invariant_of-self-2 : goal.invariant_of-self-2
invariant_of-self-2 c =
    let old = seen c.self.inside in
    IsSound-along {old = releases old}
    (λ i. record {
      kernel = c.take_ready.ensures.kept i;
      first = c.self.inside.first;
      sessions = (c.file.ensures.sent ∙ (λ j. with_released (c.make_room.ensures.sent j) (c.take_ready.ensures.given j))) i;
      trace = c.self.inside.trace.items;
      ready = c.take_ready.ensures.given i;
    })
    (c.file.ensures.input ∙ c.make_room.ensures.input)
    (sound_releases old (inputs c.self.inside.peers.items) c.kept.ensures c.self.invariant)
