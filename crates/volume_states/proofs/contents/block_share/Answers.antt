use Rattle.volume_states.proofs.Shares.{below, blocks_few, rest}
use Rattle.volume_states.proofs.contents.block_share.Goals as goal

pub overflow_sub-used : goal.overflow_sub-used
overflow_sub-used g c =
    below c.len-all.result c.free_block_count.result _ _ c.len-all.ensures.count c.free_block_count.ensures
    (blocks_few (g.B.Blocks.blocks c.args.blocks.now))

pub returns : goal.returns
returns g c = record {
  all = c.len-all.ensures.count;
  used = rest c.len-all.result c.free_block_count.result _ _ c.len-all.ensures.count c.free_block_count.ensures
      (blocks_few (g.B.Blocks.blocks c.args.blocks.now));
}
