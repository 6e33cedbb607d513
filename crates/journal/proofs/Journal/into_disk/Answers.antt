use Rattle.std.proofs.Common.{rules}
use Rattle.journal.proofs.Journal.into_disk.Goals as goal

pub returns : goal.returns
returns c = search rules
