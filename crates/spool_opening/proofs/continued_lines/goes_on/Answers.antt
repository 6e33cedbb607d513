use Rattle.std.proofs.Common.{rules}
use Rattle.spool_opening.proofs.continued_lines.goes_on.Goals as goal

pub returns : goal.returns
returns c = search rules
