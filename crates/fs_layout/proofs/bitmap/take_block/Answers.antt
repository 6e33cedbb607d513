use Rattle.std.proofs.Common.{arith}
use Rattle.fs_layout.proofs.Marking.{none_free}
use Rattle.fs_layout.proofs.bitmap.take_block.Goals as goal

pub unreachable-requires : goal.unreachable-requires
unreachable-requires g c =
    omega (arith, none_free (g.B.Blocks.blocks c.args.blocks.now) c.in_default.ensures, c.requires.free)
