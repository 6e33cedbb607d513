use Rattle.std.proofs.Common.{rules}
use Rattle.world.proofs.World.happen.Goals as goal

pub returns-in-Leave : goal.returns-in-Leave
returns-in-Leave g c = search rules

pub returns-in-Exec : goal.returns-in-Exec
returns-in-Exec g c = search rules

pub returns-in-Take : goal.returns-in-Take
returns-in-Take g c = search rules

pub returns-in-Dev : goal.returns-in-Dev
returns-in-Dev g c = search rules

pub returns-in-Told : goal.returns-in-Told
returns-in-Told g c = search rules

pub returns-in-Release : goal.returns-in-Release
returns-in-Release g c = search rules

pub returns-in-ReleaseOf : goal.returns-in-ReleaseOf
returns-in-ReleaseOf g c = search rules

pub returns-in-Stop : goal.returns-in-Stop
returns-in-Stop g c = search rules
