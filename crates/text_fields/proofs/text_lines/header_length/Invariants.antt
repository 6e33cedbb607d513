use Rattle.std.proofs.Common.{length}
use Rattle.text_fields.proofs.HeaderLaws.{IsAt}
use Rattle.text_fields.proofs.text_lines.header_length.Given as goal

-- the lines so far are of the header
abbrev pub invariant-loop-rest : goal.invariant-loop-rest
invariant-loop-rest l = IsAt l.text l.rest l.at

abbrev pub decreases-loop-rest : goal.decreases-loop-rest
decreases-loop-rest l = length l.rest
