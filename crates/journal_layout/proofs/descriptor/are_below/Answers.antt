use Rattle.std.proofs.Common.{rules}
use Rattle.journal_layout.proofs.descriptor.are_below.Goals as goal

pub returns : goal.returns
returns c = search rules
