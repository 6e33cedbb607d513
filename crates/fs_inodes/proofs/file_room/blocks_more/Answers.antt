use Rattle.std.proofs.Common.{arith}
use Rattle.fs_inodes.proofs.Sizes.{blocks_for_le}
use Rattle.fs_inodes.proofs.file_room.blocks_more.Goals as goal

pub overflow_sub-result : goal.overflow_sub-result
overflow_sub-result c = omega (
  arith,
  blocks_for_le c.args.was c.args.size c.requires.order,
  c.owned_blocks.ensures,
  c.owned_blocks-2.ensures,
)
