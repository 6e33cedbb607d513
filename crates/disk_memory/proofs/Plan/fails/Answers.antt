use Rattle.std.proofs.Common.{rules}
use Rattle.disk_memory.proofs.Plan.fails.Goals as goal

pub returns-in-Kind-2-clause-plan : goal.returns-in-Kind-2-clause-plan
returns-in-Kind-2-clause-plan c = search rules

pub returns-in-Kind-clause-fails : goal.returns-in-Kind-clause-fails
returns-in-Kind-clause-fails c = search rules

pub returns-in-Kind-clause-plan : goal.returns-in-Kind-clause-plan
returns-in-Kind-clause-plan c = search rules

pub returns-in-Any-eq0-clause-plan : goal.returns-in-Any-eq0-clause-plan
returns-in-Any-eq0-clause-plan c = search rules
