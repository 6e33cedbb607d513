use Rattle.std.proofs.Common.{◌≡◌, ◌-◌, List, arith, ap, length, sym, ◌∙◌, subst}
use Rattle.std.specs.Prelude.{min}
use Rattle.kernel.specs.Kernel.{KernelView, seat_of}
use Rattle.kernel_outbox.specs.Queue.{ReadyEntry, octets_in}
use Rattle.kernel_trace.specs.Events.{releases_of}
use Rattle.kernel_trace.specs.Fields.{AreKnown, GivesOne, HaveRoom, given_in, inputs, seen, sents}
use Rattle.kernel_trace.specs.Traced.{Sent, TracedView}
use Rattle.kernel_trace.proofs.Room.{one_room}
use Rattle.kernel_trace.proofs.Sessions.{one_known}
use Rattle.kernel_trace.proofs.Sound.{IsSound-along, sound_releases_of}
use Rattle.kernel_trace.proofs.Within.{given_behind, gives_one, least, releases_so}
use Rattle.kernel_trace.proofs.TracedKernel.release_of.Goals as goal

pub copy_entry-requires-clause-one : goal.copy_entry-requires-clause-one
copy_entry-requires-clause-one c =
    let k : KernelView = c.self.inside.kernel in
    let held : octets_in c.in_ok-buffer.buffer ≡ 65536 - min c.args.room 65536 =
    omega (arith, c.in_ok-buffer.ensures.octets, c.min.ensures) in
    let given = given_behind k c.args.number c.args.room _ _ _ held c.len-place.ensures.len c.give_ready.ensures.given in
    subst GivesOne (sym given) (gives_one k.durable (min c.args.room 65536) k.seats (seat_of k c.args.number) (least c.args.room))

pub file-requires-clause-known : goal.file-requires-clause-known
file-requires-clause-known c =
    let k : KernelView = c.self.inside.kernel in
    let held : octets_in c.in_ok-buffer.buffer ≡ 65536 - min c.args.room 65536 =
    omega (arith, c.in_ok-buffer.ensures.octets, c.min.ensures) in
    let given = c.copy_entry.ensures ∙ given_behind c.self.inside.kernel c.args.number c.args.room _ _ _ held c.len-place.ensures.len
    c.give_ready.ensures.given in
    subst (λ (t : List Sent × List ReadyEntry). AreKnown t.0 t.1) (λ i. (sym c.make_room.ensures.sent i, sym given i))
    (one_known k.host k.spool k.joined k.durable (min c.args.room 65536) c.args.number (sents c.self.inside.peers.items) k.seats
    c.self.invariant.beside.numbers c.kept.ensures.seats)

pub file-requires-clause-room : goal.file-requires-clause-room
file-requires-clause-room c =
    let k : KernelView = c.self.inside.kernel in
    let held : octets_in c.in_ok-buffer.buffer ≡ 65536 - min c.args.room 65536 =
    omega (arith, c.in_ok-buffer.ensures.octets, c.min.ensures) in
    let given = c.copy_entry.ensures ∙ given_behind c.self.inside.kernel c.args.number c.args.room _ _ _ held c.len-place.ensures.len
    c.give_ready.ensures.given in
    subst (λ (es : List ReadyEntry). HaveRoom c.make_room.new.peers.items (λ number. length (given_in number es))) (sym given)
    (one_room k.seats k.durable (min c.args.room 65536) c.args.number c.make_room.new.peers.items (least c.args.room)
    c.in_ok-make_room.ensures.room)

pub invariant_of-self-2 : goal.invariant_of-self-2
invariant_of-self-2 c =
    let held : octets_in c.in_ok-buffer.buffer ≡ 65536 - min c.args.room 65536 =
    omega (arith, c.in_ok-buffer.ensures.octets, c.min.ensures) in
    let given = c.copy_entry.ensures ∙ given_behind c.self.inside.kernel c.args.number c.args.room _ _ _ held c.len-place.ensures.len
    c.give_ready.ensures.given in
    IsSound-along {old = releases_of (seen c.self.inside) c.args.number c.args.room}
    (releases_so (seen c.self.inside) c.args.number c.args.room c.give_ready.new.self _ _ c.in_ok-buffer.buffer _ held
    c.give_ready.ensures.kept c.file.ensures.sent c.make_room.ensures.sent given)
    (c.file.ensures.input ∙ c.make_room.ensures.input)
    (sound_releases_of (seen c.self.inside) (inputs c.self.inside.peers.items) c.args.number c.args.room c.kept.ensures c.self.invariant)

pub returns-clause-ok : goal.returns-clause-ok
returns-clause-ok c =
    let held : octets_in c.in_ok-buffer.buffer ≡ 65536 - min c.args.room 65536 =
    omega (arith, c.in_ok-buffer.ensures.octets, c.min.ensures) in
    let given = c.copy_entry.ensures ∙ given_behind c.self.inside.kernel c.args.number c.args.room _ _ _ held c.len-place.ensures.len
    c.give_ready.ensures.given in
    releases_so (seen c.self.inside) c.args.number c.args.room c.give_ready.new.self _ _ c.in_ok-buffer.buffer _ held
    c.give_ready.ensures.kept c.file.ensures.sent c.make_room.ensures.sent given
    ∙ ap (λ (v : TracedView). releases_of v c.args.number c.args.room) c.self.view_is
