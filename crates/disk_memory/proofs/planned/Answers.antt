use Rattle.std.proofs.Common.{rules}
use Rattle.disk_memory.proofs.planned.Goals as goal

pub returns-else-n-eq0 : goal.returns-else-n-eq0
returns-else-n-eq0 c = search rules
