use Rattle.std.proofs.Common.{◌≡◌, take, true}
use Rattle.copy_portions.specs.Copying.{flagged}
use Rattle.copy_portions.proofs.left.Left.add.Given as goal

abbrev pub invariant-loop-number : goal.invariant-loop-number
invariant-loop-number l = l.self ≡ flagged true l.initial.self (take l.number-index l.numbers)
