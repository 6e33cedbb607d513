use Rattle.std.proofs.Common.{◌≡◌, ◌<◌, ◌++◌, List, length, set, take, drop, suc, ap, sym, subst, ◌∙◌, arith, rules, add-one}
use Rattle.std.proofs.lemmas.List.{drop-set-lt, length-map, map-set, take-set}
use Rattle.std.proofs.lemmas.List.Elements.{All-set}
use Rattle.kernel_outbox.specs.Queue.{ReadyEntry}
use Rattle.kernel_seats.specs.Lined.{AllAreLined, LinedSeat, SeatIsLined, all_seen, seen}
use Rattle.kernel_seats.specs.Seats.{Seat}
use Rattle.kernel_seats.proofs.Rest.{IsRest, rest_at_first, rest_ended, rest_stays}
use Rattle.kernel_seats.proofs.Seeing.{lined_without, seen_at, seen_without}
use Rattle.kernel_seats.proofs.release.Goals as goal

pub loop-at-init : goal.loop-at-init
loop-at-init g c =
    let all = all_seen (g.S.Source.octets_of c.args.source.now) c.args.seats.now.items in
    record {
      rest = subst (λ (entries : List ReadyEntry). IsRest c.args.durable all entries 0 all) (sym c.requires.empty)
          (rest_at_first c.args.durable all);
      lined = c.requires.lined;
    }

pub give-requires-clause-few : goal.give-requires-clause-few
give-requires-clause-few g c =
    let made = g.S.Source.octets_of c.args.source.now in
    let lt : c.loop-at.at < length c.loop-at.seats.items = search rules in
    omega (
      arith,
      c.requires.few,
      c.loop-at.invariant.rest.size,
      length-map c.loop-at.seats.items (seen made),
      length-map c.args.seats.now.items (seen made),
    )

pub give-requires-clause-lined : goal.give-requires-clause-lined
give-requires-clause-lined g c =
    let lt : c.loop-at.at < length c.loop-at.seats.items = search rules in
    subst (SeatIsLined (g.S.Source.keeps c.args.source.now)) (sym c.index_mut-seat.ensures.value)
    (c.loop-at.invariant.lined c.loop-at.at c.index_mut-seat.result.now lt)

pub loop-at-preserved-then-give : goal.loop-at-preserved-then-give
loop-at-preserved-then-give g c =
    let made = g.S.Source.octets_of c.args.source.now in
    let keeps = g.S.Source.keeps c.args.source.now in
    let seat : LinedSeat = c.index_mut-seat.result.now in
    let seats : List LinedSeat = c.loop-at.seats.items in
    let at = c.loop-at.at in
    let lt : at < length seats = search rules in
    let there : at < length (all_seen made seats) = omega (arith, lt, length-map seats (seen made)) in
    let next = rest_ended c.args.durable (all_seen made c.args.seats.now.items) c.loop-at.into at (all_seen made seats) (seen made seat)
    there (seen_at made seats at seat c.index_mut-seat.ensures.value) c.loop-at.invariant.rest (sym c.give.ensures.ended ∙ c.if-give.true)
    in
    let left : c.remove.new.self.items ≡ take at seats ++ drop (suc at) seats =
    c.remove.ensures.items ∙ (λ i. take-set seats at c.give.new.self i ++ drop-set-lt (suc at) seats at c.give.new.self (omega arith) i) in
    let now : all_seen made c.remove.new.self.items ≡ take at (all_seen made seats) ++ drop (suc at) (all_seen made seats) =
    ap (all_seen made) left ∙ seen_without made seats at in
    record {
      rest = subst (λ (p : List ReadyEntry × List Seat). IsRest c.args.durable (all_seen made c.args.seats.now.items) p.0 at p.1)
          (λ i. (sym c.give.ensures.entries i, sym now i)) next;
      lined = subst (AllAreLined keeps) (sym left) (lined_without keeps seats at c.loop-at.invariant.lined);
    }

pub loop-at-preserved : goal.loop-at-preserved
loop-at-preserved g c =
    let made = g.S.Source.octets_of c.args.source.now in
    let keeps = g.S.Source.keeps c.args.source.now in
    let seat : LinedSeat = c.index_mut-seat.result.now in
    let seats : List LinedSeat = c.loop-at.seats.items in
    let at = c.loop-at.at in
    let lt : at < length seats = search rules in
    let there : at < length (all_seen made seats) = omega (arith, lt, length-map seats (seen made)) in
    let next = rest_stays c.args.durable (all_seen made c.args.seats.now.items) c.loop-at.into at (all_seen made seats) (seen made seat)
    there (seen_at made seats at seat c.index_mut-seat.ensures.value) c.loop-at.invariant.rest (sym c.give.ensures.ended ∙ c.if-give.false)
    in
    let now : all_seen made (set seats at c.give.new.self) ≡ set (all_seen made seats) at _ =
    map-set (seen made) seats at c.give.new.self ∙ ap (set (all_seen made seats) at) c.give.ensures.seat in
    record {
      rest = rw add-one (subst (λ (p : List ReadyEntry × List Seat). IsRest c.args.durable (all_seen made c.args.seats.now.items) p.0
          (suc at) p.1)
          (λ i. (sym c.give.ensures.entries i, sym now i)) next);
      lined = All-set (SeatIsLined keeps) seats at c.give.new.self c.give.ensures.lined c.loop-at.invariant.lined;
    }
