use Rattle.std.proofs.Common.{rules}
use Rattle.journal_segments.proofs.open_segments.is_new.Goals as goal

pub loop-i-preserved : goal.loop-i-preserved
loop-i-preserved c = search rules
