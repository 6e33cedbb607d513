use Rattle.std.proofs.Common.{rules}
use Rattle.journal_layout.proofs.descriptor.are_distinct.Goals as goal

pub loop-j-preserved : goal.loop-j-preserved
loop-j-preserved c = search rules
