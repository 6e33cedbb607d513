use Rattle.std.proofs.Common.{arith}
use Rattle.std.proofs.lemmas.Grind.{common_steps}
use Rattle.journal_layout.proofs.descriptor.describe_batch.Goals as goal

pub describe-requires-clause-clear : goal.describe-requires-clause-clear
describe-requires-clause-clear c = grind (arith, common_steps)
