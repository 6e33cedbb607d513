use Rattle.std.proofs.Common.{rules}
use Rattle.journal.proofs.Journal.label.Goals as goal

pub returns-clause-label : goal.returns-clause-label
returns-clause-label c = search rules
