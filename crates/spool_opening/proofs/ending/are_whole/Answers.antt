use Rattle.std.proofs.Common.{rules}
use Rattle.spool_opening.proofs.ending.are_whole.Goals as goal

pub returns : goal.returns
returns c = search rules
