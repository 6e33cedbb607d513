use Rattle.std.proofs.Common.{arith}
use Rattle.std.proofs.lemmas.Grind.{common_steps}
use Rattle.spool_groups.proofs.group.Group.file.Goals as goal

pub returns-clause-filed : goal.returns-clause-filed
returns-clause-filed c = grind (arith, common_steps)
