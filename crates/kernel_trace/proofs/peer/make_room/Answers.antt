use Rattle.std.proofs.Common.{◌≡◌, ◌<◌, None, length, sym, ◌∙◌, arith}
use Rattle.std.specs.Prelude.{slice_get}
use Rattle.std.proofs.lemmas.Option.{slice_get_within}
use Rattle.kernel_seats.specs.Seats.{Seat}
use Rattle.model.proofs.Fronts.{none_mapped}
use Rattle.kernel_trace.proofs.Room.{get_past, room_more}
use Rattle.kernel_trace.proofs.peer.make_room.Goals as goal

pub loop-place-preserved : goal.loop-place-preserved
loop-place-preserved c =
    room_more c.args.kernel.now.seats c.args.peers.now.items c.loop-place.peers.items c.reserve.new.peers.items c.loop-place.place
    c.in-Some.number c.loop-place.invariant c.reserve.ensures.sent c.reserve.ensures.input
    (sym c.session.ensures ∙ c.in-Some.is) c.in_ok-reserve-in-Some.ensures.room c.reserve.ensures.others

pub returns-in-None-clause-room : goal.returns-in-None-clause-room
returns-in-None-clause-room c k seat is =
    let past : slice_get c.args.kernel.now.seats c.loop-place.place ≡ None =
    none_mapped (λ (s : Seat). s.number) (slice_get c.args.kernel.now.seats c.loop-place.place) (sym c.session.ensures ∙ c.in-None.is) in
    c.loop-place.invariant.room k seat (get_past c.args.kernel.now.seats c.loop-place.place k seat past is) is

pub returns-clause-room : goal.returns-clause-room
returns-clause-room c k seat is =
    let within : k < length c.args.kernel.now.seats = slice_get_within c.args.kernel.now.seats k seat is in
    c.loop-place.invariant.room k seat (omega (arith, c.loop-place-test.false, c.session_count-place-end.ensures)) is
