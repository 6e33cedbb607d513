use Rattle.std.proofs.Common.{◌+◌, length}
use Rattle.fs.specs.Touches.{touched_by_growth}
use Rattle.fs_layout.proofs.Touching.{touches_more}
use Rattle.spool_growing.specs.Putting.{touched_by_put}
use Rattle.spool_growing.proofs.Packing.{alone_touches, made_alone}
use Rattle.spool_growing.proofs.putting.put_alone.Goals as goal

pub returns-clause-puts : goal.returns-clause-puts
returns-clause-puts g c =
    made_alone c.args.inodes c.in_ok-at.at c.args.name.now c.args.octets.now (g.B.Blocks.blocks c.args.blocks.now)
    (g.B.Blocks.blocks c.make_file.new.blocks) c.in_ok-at.ensures.made

pub returns-clause-touches : goal.returns-clause-touches
returns-clause-touches g c =
    let count = length c.args.octets.now in
    touches_more (2 + touched_by_growth 0 count) (touched_by_put count) (g.B.Blocks.blocks c.args.blocks.now)
    (g.B.Blocks.blocks c.make_file.new.blocks) (alone_touches count c.requires.short) c.in_ok-at.ensures.touches
