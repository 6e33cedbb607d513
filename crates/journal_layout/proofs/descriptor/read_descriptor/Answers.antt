use Rattle.std.proofs.Common.{rules}
use Rattle.journal_layout.proofs.descriptor.read_descriptor.Goals as goal

pub returns-then-count-eq0-clause-none : goal.returns-then-count-eq0-clause-none
returns-then-count-eq0-clause-none c = search rules
