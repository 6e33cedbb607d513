use Rattle.std.proofs.Common.{rules}
use Rattle.fs_layout.proofs.slots.name_of.Goals as goal

pub returns : goal.returns
returns c = search rules
