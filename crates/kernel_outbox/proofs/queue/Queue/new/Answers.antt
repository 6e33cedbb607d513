use Rattle.std.proofs.Common.{rules}
use Rattle.kernel_outbox.proofs.queue.Queue.new.Goals as goal

pub returns-clause-given : goal.returns-clause-given
returns-clause-given c = search rules
