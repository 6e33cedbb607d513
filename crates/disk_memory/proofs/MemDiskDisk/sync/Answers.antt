use Rattle.std.proofs.Common.{rules}
use Rattle.disk_memory.proofs.MemDiskDisk.sync.Goals as goal

pub returns-in_err-ask-clause-memory : goal.returns-in_err-ask-clause-memory
returns-in_err-ask-clause-memory c = search rules

pub returns-clause-memory : goal.returns-clause-memory
returns-clause-memory c = search rules
