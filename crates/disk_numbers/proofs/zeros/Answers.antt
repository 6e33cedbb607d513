use Rattle.std.proofs.Common.{arith}
use Rattle.std.proofs.lemmas.Grind.{common_steps}
use Rattle.disk_numbers.proofs.zeros.Goals as goal

pub returns-clause-zero : goal.returns-clause-zero
returns-clause-zero c = grind (arith, common_steps)
