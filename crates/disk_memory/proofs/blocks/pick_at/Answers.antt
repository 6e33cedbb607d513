use Rattle.std.proofs.Common.{rules}
use Rattle.disk_memory.proofs.blocks.pick_at.Goals as goal

pub returns-else-is_empty : goal.returns-else-is_empty
returns-else-is_empty c = search rules
