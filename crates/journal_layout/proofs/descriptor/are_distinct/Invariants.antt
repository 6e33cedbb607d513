use Rattle.std.proofs.Common.{◌≢◌, ℕ, ◌<◌, get_or}
use Rattle.journal_layout.proofs.descriptor.are_distinct.Given as goal

abbrev pub invariant-loop-i : goal.invariant-loop-i
invariant-loop-i l = (a b : ℕ) → a < b → b < l.i → get_or l.numbers a 0 ≢ get_or l.numbers b 0

abbrev pub invariant-loop-j : goal.invariant-loop-j
invariant-loop-j l = (a : ℕ) → a < l.j → get_or l.numbers a 0 ≢ get_or l.numbers l.i 0
