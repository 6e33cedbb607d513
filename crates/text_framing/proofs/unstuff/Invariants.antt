use Rattle.std.proofs.Common.{◌≡◌, ◌++◌, length}
use Rattle.model.specs.Stream.{unstuffed}
use Rattle.text_framing.proofs.unstuff.Given as goal

-- the text so far, and the text of the rest
abbrev pub invariant-loop-rest : goal.invariant-loop-rest
invariant-loop-rest l = l.text.items ++ unstuffed l.rest ≡ unstuffed l.block

abbrev pub decreases-loop-rest : goal.decreases-loop-rest
decreases-loop-rest l = length l.rest
