use Rattle.std.proofs.Common.{length, []}
use Rattle.fs.specs.Touches.{touched_by_growth}
use Rattle.fs_layout.proofs.Touching.{touches_then}
use Rattle.spool_growing.proofs.Calling.{made}
use Rattle.spool_growing.proofs.file_calls.make_file.Goals as goal

pub returns-clause-made : goal.returns-clause-made
returns-clause-made g c =
    made c.args.inodes c.in_ok-at.at c.args.name.now c.args.octets.now (g.B.Blocks.blocks c.args.blocks.now)
    (g.B.Blocks.blocks c.create_file.new.blocks) (g.B.Blocks.blocks c.append_to.new.blocks)
    c.in_ok-at.ensures.created c.in_ok-append_to.ensures.appended

pub returns-clause-touches : goal.returns-clause-touches
returns-clause-touches g c =
    touches_then 2 (touched_by_growth 0 (length c.args.octets.now)) (g.B.Blocks.blocks c.args.blocks.now)
    (g.B.Blocks.blocks c.create_file.new.blocks) (g.B.Blocks.blocks c.append_to.new.blocks)
    c.in_ok-at.ensures.touches (c.in_ok-append_to.ensures.touches c.args.name.now [] c.in_ok-at.ensures.created.there)
