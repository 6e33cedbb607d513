use Rattle.std.proofs.Common.{◌≡◌, ◌++◌, length, flat_map}
use Rattle.model.specs.Stream.{lines, stuffed_line}
use Rattle.text_framing.proofs.stuff.Given as goal

-- the lines so far, and the lines of the rest
abbrev pub invariant-loop-rest : goal.invariant-loop-rest
invariant-loop-rest l = l.block.items ++ flat_map stuffed_line (lines l.rest) ≡ flat_map stuffed_line (lines l.text)

abbrev pub decreases-loop-rest : goal.decreases-loop-rest
decreases-loop-rest l = length l.rest
