use Rattle.std.proofs.Common.{◌≡◌, ◌++◌, drop}
use Rattle.text_rnews.specs.LineEnds.{with_lf}
use Rattle.text_rnews.proofs.line_ends.with_lf.Given as goal

-- the text so far, and that of the octets left
abbrev pub invariant-loop-at : goal.invariant-loop-at
invariant-loop-at l = l.text.items ++ with_lf (drop l.at l.octets) ≡ with_lf l.octets
