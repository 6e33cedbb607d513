use Rattle.std.proofs.Common.{length}
use Rattle.text_fields.proofs.FieldLaws.{GoesOn}
use Rattle.text_fields.proofs.fields.field_end.Given as goal

-- the lines so far continue the field
abbrev pub invariant-loop-rest : goal.invariant-loop-rest
invariant-loop-rest l = GoesOn l.text l.first l.rest l.end

abbrev pub decreases-loop-rest : goal.decreases-loop-rest
decreases-loop-rest l = length l.rest
