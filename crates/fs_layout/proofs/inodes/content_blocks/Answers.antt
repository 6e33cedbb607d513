use Rattle.std.proofs.Common.{rules}
use Rattle.fs_layout.proofs.inodes.content_blocks.Goals as goal

pub returns : goal.returns
returns c = search rules
