use Rattle.std.proofs.Common.{◌≡◌, ◌<◌, ◌≤◌, ◌-◌, ◌*◌, ℕ, arith}
use Rattle.fs_layout.proofs.Marking.{bits_set, block_full, lowest_is_marked}
use Rattle.fs_layout.proofs.bitmap.lowest_free_in.Goals as goal

pub lowest_clear-requires-clause-set : goal.lowest_clear-requires-clause-set
lowest_clear-requires-clause-set g c b low =
    bits_set (g.B.Blocks.blocks c.args.blocks.now) c.args.table c.args.from b c.block.result.now c.block.ensures.octets c.requires.none
    (omega (arith, low)) (omega (arith, low)) (omega (arith, low, c.len.ensures.count))

pub returns-in-Some : goal.returns-in-Some
returns-in-Some g c =
    let found = lowest_is_marked (g.B.Blocks.blocks c.args.blocks.now) c.args.table c.min-count.result c.block.result.now
    c.block.ensures.octets (omega arith) c.in-Some.bit c.in-Some.ensures in (
      omega (arith, c.in-Some.ensures.below, c.len.ensures.count),
      found.0,
      found.1,
    )

pub returns-in-None : goal.returns-in-None
returns-in-None g c b low high within =
    block_full (g.B.Blocks.blocks c.args.blocks.now) c.args.table c.min-count.result c.block.result.now c.block.ensures.octets
    (omega arith) c.in-None.ensures b low (omega (arith, high, within, c.len.ensures.count))
