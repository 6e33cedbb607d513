use Rattle.std.proofs.Common.{arith}
use Rattle.spool.proofs.Full.{blocks_within}
use Rattle.spool.proofs.Spool.used_blocks.Goals as goal

pub returns : goal.returns
returns c =
    omega (arith, c.saturating_sub.ensures, c.blocks-2.ensures, c.free_blocks.ensures, blocks_within c.args.self.now.blocks)
