use Rattle.std.proofs.Common.{rules}
use Rattle.journal_layout.proofs.formatting.format.Goals as goal

pub format_with-requires-clause-size : goal.format_with-requires-clause-size
format_with-requires-clause-size c = search rules

pub returns-clause-count : goal.returns-clause-count
returns-clause-count c = search rules
