use Rattle.std.proofs.Common.{◌≡◌, ℕ, ◌<◌, ◌==◌, ◌++◌, List, length, append-nil, ap, refl, sym, subst, ◌∙◌, rules}
use Rattle.std.specs.Prelude.{Some, None, find, option_map, slice_get}
use Rattle.std.proofs.lemmas.List.Elements.{All-set}
use Rattle.std.proofs.lemmas.Option.{slice_get_within}
use Rattle.model.specs.Stream.{Octets}
use Rattle.kernel_outbox.specs.declared.made_lines.Lines.{Lines}
use Rattle.kernel_seats.specs.Lined.{AllAreLined, LinedSeat, RiseAbove, SeatIsLined, all_seen, seen}
use Rattle.kernel_seats.specs.Seats.{Seat, holds, ready_by}
use Rattle.kernel_seats.proofs.Halving.{rise_kept}
use Rattle.kernel_seats.proofs.One.{dropped, none_held, one_dropped, one_gives, one_written, some_held}
use Rattle.kernel_seats.proofs.Seeing.{find_seen, lined_without}
use Rattle.kernel_seats.proofs.release_of.Goals as goal

pub position-requires : goal.position-requires
position-requires g c = record {
  rising = subst (RiseAbove 0) (sym c.deref.ensures.value)
      (rise_kept (g.S.Source.octets_of c.args.source.now) 0 c.args.seats.now.items c.requires.rising);
}

-- the place that was found is one of a session
there : (read seats : List LinedSeat) (at sid : ℕ) → read ≡ seats
    → (s : LinedSeat) × (slice_get read at ≡ Some s) × (s.number ≡ sid) → at < length seats
there read seats at sid same found =
    slice_get_within seats at found.0 (subst (λ (xs : List LinedSeat). slice_get xs at ≡ Some found.0) same found.1)

pub index_mut-seat-requires : goal.index_mut-seat-requires
index_mut-seat-requires g c =
    let within = there c.deref.result.now c.args.seats.now.items c.in-Some.place c.args.sid c.deref.ensures.value c.in-Some.ensures.some in
    search rules

pub remove-requires : goal.remove-requires
remove-requires g c =
    let within = there c.deref.result.now c.args.seats.now.items c.in-Some.place c.args.sid c.deref.ensures.value c.in-Some.ensures.some in
    search rules

pub give-ended-requires-clause-lined : goal.give-ended-requires-clause-lined
give-ended-requires-clause-lined g c =
    subst (SeatIsLined (g.S.Source.keeps c.args.source.now)) (sym c.index_mut-seat.ensures.value)
    (c.requires.lined c.in-Some.place c.index_mut-seat.result.now
    (there c.deref.result.now c.args.seats.now.items c.in-Some.place c.args.sid c.deref.ensures.value c.in-Some.ensures.some))

-- no session has this number
none_seen : (made : Lines → Octets) (read seats : List LinedSeat) (sid : ℕ) → read ≡ seats
    → find (λ (s : LinedSeat). s.number == sid) read ≡ None → find (λ (s : Seat). s.number == sid) (all_seen made seats) ≡ None
none_seen made read seats sid same none =
    find_seen made seats sid
    ∙ ap (λ (ss : List LinedSeat). option_map (seen made) (find (λ (s : LinedSeat). s.number == sid) ss)) (sym same)
    ∙ ap (option_map (seen made)) none

pub returns-in_default-clause-given : goal.returns-in_default-clause-given
returns-in_default-clause-given g c =
    let made = g.S.Source.octets_of c.args.source.now in
    let seats : List LinedSeat = c.args.seats.now.items in
    let none = none_seen made c.deref.result.now seats c.args.sid c.deref.ensures.value (c.in_default.ensures.none refl) in
    sym (append-nil c.args.into.now)
    ∙ ap (λ o. c.args.into.now ++ (ready_by c.args.durable c.args.into.now (all_seen made seats) o).entries) (sym none)

pub returns-in_default-clause-kept : goal.returns-in_default-clause-kept
returns-in_default-clause-kept g c =
    let made = g.S.Source.octets_of c.args.source.now in
    let seats : List LinedSeat = c.args.seats.now.items in
    let none = none_seen made c.deref.result.now seats c.args.sid c.deref.ensures.value (c.in_default.ensures.none refl) in
    ap (λ o. (ready_by c.args.durable c.args.into.now (all_seen made seats) o).seats) (sym none)

pub returns-in_default-clause-holds : goal.returns-in_default-clause-holds
returns-in_default-clause-holds g c =
    let made = g.S.Source.octets_of c.args.source.now in
    let seats : List LinedSeat = c.args.seats.now.items in
    let none = none_seen made c.deref.result.now seats c.args.sid c.deref.ensures.value (c.in_default.ensures.none refl) in
    ap holds (sym none)

pub returns-then-ended-clause-given : goal.returns-then-ended-clause-given
returns-then-ended-clause-given g c =
    c.give-ended.ensures.entries ∙ ap (λ entries. c.args.into.now ++ entries)
    (one_gives (g.S.Source.octets_of c.args.source.now) c.args.durable c.args.into.now c.args.seats.now.items c.deref.result.now
    c.in-Some.place c.args.sid c.index_mut-seat.result.now c.requires.rising c.deref.ensures.value c.in-Some.ensures.some
    c.index_mut-seat.ensures.value)

pub returns-then-ended-clause-kept : goal.returns-then-ended-clause-kept
returns-then-ended-clause-kept g c =
    let left = dropped c.args.seats.now.items c.remove.new.self.items c.in-Some.place c.give-ended.new.self c.remove.ensures.items in
    one_dropped (g.S.Source.octets_of c.args.source.now) c.args.durable c.args.into.now c.args.seats.now.items c.deref.result.now
    c.in-Some.place c.args.sid c.index_mut-seat.result.now c.requires.rising c.deref.ensures.value c.in-Some.ensures.some
    c.index_mut-seat.ensures.value c.remove.new.self.items left
    (sym c.give-ended.ensures.ended ∙ c.if-ended.true)

pub returns-then-ended-clause-lined : goal.returns-then-ended-clause-lined
returns-then-ended-clause-lined g c =
    let left = dropped c.args.seats.now.items c.remove.new.self.items c.in-Some.place c.give-ended.new.self c.remove.ensures.items in
    subst (AllAreLined (g.S.Source.keeps c.args.source.now)) (sym left)
    (lined_without (g.S.Source.keeps c.args.source.now) c.args.seats.now.items c.in-Some.place c.requires.lined)

pub returns-then-ended-clause-holds : goal.returns-then-ended-clause-holds
returns-then-ended-clause-holds g c =
    let left = dropped c.args.seats.now.items c.remove.new.self.items c.in-Some.place c.give-ended.new.self c.remove.ensures.items in
    none_held (g.S.Source.octets_of c.args.source.now) c.args.durable c.args.into.now c.args.seats.now.items c.deref.result.now
    c.in-Some.place c.args.sid c.index_mut-seat.result.now c.requires.rising c.deref.ensures.value c.in-Some.ensures.some
    c.index_mut-seat.ensures.value c.remove.new.self.items left

pub returns-clause-given : goal.returns-clause-given
returns-clause-given g c =
    c.give-ended.ensures.entries ∙ ap (λ entries. c.args.into.now ++ entries)
    (one_gives (g.S.Source.octets_of c.args.source.now) c.args.durable c.args.into.now c.args.seats.now.items c.deref.result.now
    c.in-Some.place c.args.sid c.index_mut-seat.result.now c.requires.rising c.deref.ensures.value c.in-Some.ensures.some
    c.index_mut-seat.ensures.value)

pub returns-clause-kept : goal.returns-clause-kept
returns-clause-kept g c =
    one_written (g.S.Source.octets_of c.args.source.now) c.args.durable c.args.into.now c.args.seats.now.items c.deref.result.now
    c.in-Some.place c.args.sid c.index_mut-seat.result.now c.requires.rising c.deref.ensures.value c.in-Some.ensures.some
    c.index_mut-seat.ensures.value c.give-ended.new.self c.give-ended.ensures.seat
    (sym c.give-ended.ensures.ended ∙ c.if-ended.false)

pub returns-clause-lined : goal.returns-clause-lined
returns-clause-lined g c =
    All-set (SeatIsLined (g.S.Source.keeps c.args.source.now)) c.args.seats.now.items c.in-Some.place c.give-ended.new.self
    c.give-ended.ensures.lined c.requires.lined

pub returns-clause-holds : goal.returns-clause-holds
returns-clause-holds g c =
    c.holds-holds.ensures
    ∙ some_held (g.S.Source.octets_of c.args.source.now) c.args.durable c.args.into.now c.args.seats.now.items c.deref.result.now
    c.in-Some.place c.args.sid c.index_mut-seat.result.now c.requires.rising c.deref.ensures.value c.in-Some.ensures.some
    c.index_mut-seat.ensures.value c.give-ended.new.self c.give-ended.ensures.seat
