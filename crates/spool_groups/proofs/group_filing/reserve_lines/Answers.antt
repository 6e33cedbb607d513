use Rattle.std.proofs.Common.{arith}
use Rattle.std.proofs.lemmas.Grind.{elements}
use Rattle.spool_groups.proofs.group_filing.reserve_lines.Goals as goal

pub loop-name-preserved : goal.loop-name-preserved
loop-name-preserved c = grind (arith, elements)
