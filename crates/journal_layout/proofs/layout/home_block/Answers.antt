use Rattle.std.proofs.Common.{rules}
use Rattle.journal_layout.proofs.layout.home_block.Goals as goal

pub returns : goal.returns
returns c = search rules
