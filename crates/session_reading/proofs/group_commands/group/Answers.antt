use Rattle.std.proofs.Common.{rules}
use Rattle.session_reading.proofs.group_commands.group.Goals as goal

pub selected-requires : goal.selected-requires
selected-requires c = search rules

pub returns-in-Some : goal.returns-in-Some
returns-in-Some c = search rules
