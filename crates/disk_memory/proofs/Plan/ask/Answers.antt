use Rattle.std.proofs.Common.{rules}
use Rattle.disk_memory.proofs.Plan.ask.Goals as goal

pub returns-then-fails-clause-failures : goal.returns-then-fails-clause-failures
returns-then-fails-clause-failures c = search rules
