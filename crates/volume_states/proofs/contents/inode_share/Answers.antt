use Rattle.std.proofs.Common.{refl}
use Rattle.volume_states.proofs.Shares.{below, inodes_few, rest}
use Rattle.volume_states.proofs.contents.inode_share.Goals as goal

pub overflow_sub-used : goal.overflow_sub-used
overflow_sub-used g c =
    below c.args.inodes c.free_inode_count.result c.args.inodes _ refl c.free_inode_count.ensures
    (inodes_few c.args.inodes (g.B.Blocks.blocks c.args.blocks.now))

pub returns : goal.returns
returns g c = record {
  all = refl;
  used = rest c.args.inodes c.free_inode_count.result c.args.inodes _ refl c.free_inode_count.ensures
      (inodes_few c.args.inodes (g.B.Blocks.blocks c.args.blocks.now));
}
