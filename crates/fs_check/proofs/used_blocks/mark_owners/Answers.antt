use Rattle.fs_check.proofs.Owning.{owners_more, owners_refused}
use Rattle.fs_check.proofs.used_blocks.mark_owners.Goals as goal

pub returns-then-not-mark_owned-clause-refused : goal.returns-then-not-mark_owned-clause-refused
returns-then-not-mark_owned-clause-refused g c =
    owners_refused c.loop-at.at c.args.inodes (g.B.Blocks.blocks c.args.blocks.now) c.loop-at.marks c.loop-at.invariant.0
    c.loop-at.invariant.1 c.loop-at-test.true c.if-not-mark_owned.ensures.refused

pub loop-at-preserved : goal.loop-at-preserved
loop-at-preserved g c =
    owners_more c.loop-at.at c.args.inodes (g.B.Blocks.blocks c.args.blocks.now) c.loop-at.marks c.loop-at.invariant.0 c.loop-at.invariant.1
    c.mark_owned.new.marks c.if-not-mark_owned.ensures.marked
