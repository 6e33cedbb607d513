use Rattle.std.proofs.Common.{rules}
use Rattle.session_reading.proofs.group_commands.count.Goals as goal

pub returns-then-counts : goal.returns-then-counts
returns-then-counts c = search rules
