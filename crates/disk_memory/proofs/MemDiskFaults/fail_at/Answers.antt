use Rattle.std.proofs.Common.{rules}
use Rattle.disk_memory.proofs.MemDiskFaults.fail_at.Goals as goal

pub returns-clause-plan : goal.returns-clause-plan
returns-clause-plan c = search rules
