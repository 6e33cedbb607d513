use Rattle.std.proofs.Common.{rules}
use Rattle.disk_memory.proofs.MemDiskDisk.len.Goals as goal

pub returns : goal.returns
returns c = search rules
