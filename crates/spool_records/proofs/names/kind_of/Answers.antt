use Rattle.std.proofs.Common.{arith}
use Rattle.std.proofs.lemmas.Grind.{common_steps}
use Rattle.spool_records.proofs.names.kind_of.Goals as goal

pub returns-in-110 : goal.returns-in-110
returns-in-110 c = grind (arith, common_steps)
