use Rattle.std.proofs.Common.{arith}
use Rattle.std.proofs.lemmas.Grind.{common_steps}
use Rattle.spool_groups.proofs.group.Group.high.Goals as goal

pub returns : goal.returns
returns c = grind (arith, common_steps)
