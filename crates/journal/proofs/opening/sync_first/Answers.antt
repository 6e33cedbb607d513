use Rattle.std.proofs.Common.{rules}
use Rattle.journal.proofs.opening.sync_first.Goals as goal

pub returns-in-Ok-clause-synced : goal.returns-in-Ok-clause-synced
returns-in-Ok-clause-synced c = search rules

pub returns-in-Ok-clause-durable : goal.returns-in-Ok-clause-durable
returns-in-Ok-clause-durable c = search rules
