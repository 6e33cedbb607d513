use Rattle.std.proofs.Common.{◌≡◌, take, false}
use Rattle.copy_portions.specs.Copying.{flagged}
use Rattle.copy_portions.proofs.left.Left.remove.Given as goal

abbrev pub invariant-loop-number : goal.invariant-loop-number
invariant-loop-number l = l.self ≡ flagged false l.initial.self (take l.number-index l.numbers)
