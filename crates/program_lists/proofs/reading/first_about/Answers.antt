use Rattle.std.proofs.Common.{arith, sym}
use Rattle.program_lists.proofs.Listing.{found_at, passed_at}
use Rattle.program_lists.proofs.reading.first_about.Goals as goal

pub returns-in-Some : goal.returns-in-Some
returns-in-Some c =
    sym (found_at c.args.lines.now c.args.name.now c.lines.place _ (omega (arith, c.lines-test.true)) c.lines.invariant
    c.in-Some.description.now (sym c.in-Some.ensures))

pub lines-preserved : goal.lines-preserved
lines-preserved c =
    passed_at c.args.lines.now c.args.name.now c.lines.place _ (omega (arith, c.lines-test.true)) c.lines.invariant
    (sym c.in_default.ensures)
