use Rattle.std.proofs.Common.{◌≡◌, ℕ, true, false, eqb, refl, sym, ◌∙◌, ap}
use Rattle.journal.specs.Flight.{Flight, are_all, flight_in}
use Rattle.journal.proofs.Flights.{closings_all, closings_each, length-all}
use Rattle.journal.proofs.stepping.closings.Goals as goal

pub returns-then-are_all-clause-count : goal.returns-then-are_all-clause-count
returns-then-are_all-clause-count c =
    let f : Flight = flight_in c.args.room.now.items c.args.filled true in
    let all : are_all f ≡ true = ap (λ (k : ℕ). eqb k f.segments) (length-all c.args.room.now.items c.args.filled true c.requires.there)
    ∙ sym c.are_all.ensures ∙ c.if-are_all.true in
    sym (closings_all f refl all)

pub returns-else-are_all-clause-count : goal.returns-else-are_all-clause-count
returns-else-are_all-clause-count c =
    let f : Flight = flight_in c.args.room.now.items c.args.filled true in
    let counted = length-all c.args.room.now.items c.args.filled true c.requires.there in
    let each : are_all f ≡ false = ap (λ (k : ℕ). eqb k f.segments) counted ∙ sym c.are_all.ensures ∙ c.if-are_all.false in
    sym (closings_each f refl each ∙ counted)
