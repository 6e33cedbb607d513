use Rattle.std.proofs.Common.{rules, arith}
use Rattle.std.proofs.lemmas.Grind.{elements}
use Rattle.disk_memory.proofs.MemDisk.new.Goals as goal

pub returns-clause-memory : goal.returns-clause-memory
returns-clause-memory c = search rules

pub returns-clause-synced : goal.returns-clause-synced
returns-clause-synced c = grind (arith, elements)
