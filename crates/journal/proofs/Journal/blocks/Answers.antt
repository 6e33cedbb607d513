use Rattle.std.proofs.Common.{rules}
use Rattle.journal.proofs.Journal.blocks.Goals as goal

pub returns-clause-size : goal.returns-clause-size
returns-clause-size c = search rules

pub returns-clause-low : goal.returns-clause-low
returns-clause-low c = search rules

pub returns-clause-device : goal.returns-clause-device
returns-clause-device c = search rules
