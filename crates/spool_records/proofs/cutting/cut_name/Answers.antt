use Rattle.std.proofs.Common.{arith}
use Rattle.std.proofs.lemmas.Grind.{common_steps}
use Rattle.spool_records.proofs.cutting.cut_name.Goals as goal

pub returns-then-rest-size : goal.returns-then-rest-size
returns-then-rest-size c = grind (arith, common_steps)
