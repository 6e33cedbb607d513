use Rattle.std.proofs.Common.{arith}
use Rattle.std.proofs.lemmas.Grind.{common_steps}
use Rattle.spool_records.proofs.names.serial_of.Goals as goal

pub returns : goal.returns
returns c = grind (arith, common_steps)
