use Rattle.std.proofs.Common.{rules}
use Rattle.kernel_outbox.proofs.queue.Queue.reserve.Goals as goal

pub returns-clause-ok : goal.returns-clause-ok
returns-clause-ok c = search rules
