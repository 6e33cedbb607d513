use Rattle.std.proofs.Common.{arith}
use Rattle.std.proofs.lemmas.Grind.{elements}
use Rattle.spool_groups.proofs.group.Group.by_number.Goals as goal

pub returns : goal.returns
returns c = grind (arith, elements)
