use Rattle.std.proofs.Common.{◌≡◌, ℕ, ◌+◌, ◌-◌, ◌/◌, ◌<◌, List, length, arith, ap}
use Rattle.std.specs.Prelude.{Some, slice_get}
use Rattle.kernel_seats.specs.Lined.{LinedSeat}
use Rattle.kernel_seats.proofs.Halving.{between_lower, between_none, between_upper, place_of}
use Rattle.kernel_seats.proofs.position.Goals as goal

pub loop-low-preserved-then-number-sid-2 : goal.loop-low-preserved-then-number-sid-2
loop-low-preserved-then-number-sid-2 c =
    let seats : List LinedSeat = c.args.seats.now in
    let middle : ℕ = c.loop-low.low + (c.loop-low.high - c.loop-low.low) / 2 in
    let within : middle < length seats = omega (arith, c.loop-low-test.true, c.loop-low.invariant.within) in
    between_upper seats c.args.sid c.loop-low.low c.loop-low.high middle c.index-seats-middle.result c.requires.rising
    (place_of seats middle c.index-seats-middle.result within c.index-seats-middle.is) c.loop-low.invariant
    (omega (arith, c.number-number.ensures, c.if-number-sid-2.true))

pub loop-low-preserved : goal.loop-low-preserved
loop-low-preserved c =
    let seats : List LinedSeat = c.args.seats.now in
    let middle : ℕ = c.loop-low.low + (c.loop-low.high - c.loop-low.low) / 2 in
    let front : middle < c.loop-low.high = omega (arith, c.loop-low-test.true) in
    between_lower seats c.args.sid c.loop-low.low c.loop-low.high middle c.index-seats-middle.result c.requires.rising
    (place_of seats middle c.index-seats-middle.result (omega (arith, front, c.loop-low.invariant.within)) c.index-seats-middle.is)
    c.loop-low.invariant (omega (arith, c.number-number.ensures, c.if-number-sid.false, c.if-number-sid-2.false)) front

pub returns-clause-none : goal.returns-clause-none
returns-clause-none c = λ none. between_none c.args.seats.now c.args.sid c.loop-low.low c.loop-low.high
    (omega (arith, c.loop-low-test.false)) c.loop-low.invariant
