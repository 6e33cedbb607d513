use Rattle.std.proofs.Common.{◌≡◌, ◌++◌, length}
use Rattle.model.specs.Article.{unfolded}
use Rattle.text_fields.proofs.contents.push_unfolded.Given as goal

-- what was appended so far, and the rest
abbrev pub invariant-loop-rest : goal.invariant-loop-rest
invariant-loop-rest l = l.octets.items ++ unfolded l.rest ≡ l.fn.octets.items ++ unfolded l.text

abbrev pub decreases-loop-rest : goal.decreases-loop-rest
decreases-loop-rest l = length l.rest
