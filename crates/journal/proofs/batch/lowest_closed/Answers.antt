use Rattle.std.proofs.Common.{rules}
use Rattle.journal.proofs.batch.lowest_closed.Goals as goal

pub returns-else-was_last : goal.returns-else-was_last
returns-else-was_last c = search rules
