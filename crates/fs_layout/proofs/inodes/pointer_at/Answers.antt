use Rattle.std.proofs.Common.{rules}
use Rattle.fs_layout.proofs.inodes.pointer_at.Goals as goal

pub returns : goal.returns
returns c = search rules
