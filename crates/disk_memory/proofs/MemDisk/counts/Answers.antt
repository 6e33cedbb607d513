use Rattle.std.proofs.Common.{rules}
use Rattle.disk_memory.proofs.MemDisk.counts.Goals as goal

pub returns-clause-writes : goal.returns-clause-writes
returns-clause-writes c = search rules

pub returns-clause-syncs : goal.returns-clause-syncs
returns-clause-syncs c = search rules
