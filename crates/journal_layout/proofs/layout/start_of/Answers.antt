use Rattle.std.proofs.Common.{rules}
use Rattle.journal_layout.proofs.layout.start_of.Goals as goal

pub returns : goal.returns
returns c = search rules
