use Rattle.std.proofs.Common.{◌-◌, arith}
use Rattle.spool_growing.proofs.Calling.{created, known_created, not_all, one_is_left}
use Rattle.spool_growing.proofs.file_calls.create_file.Goals as goal

pub returns-in-Ok-clause-created : goal.returns-in-Ok-clause-created
returns-in-Ok-clause-created g c =
    created c.args.inodes c.args.name.now c.in-Ok.at (g.B.Blocks.blocks c.args.blocks.now)
    (g.B.Blocks.blocks c.create_absent.new.blocks) c.in-Ok.ensures.created c.in-Ok.ensures.marks

pub unreachable-requires : goal.unreachable-requires
unreachable-requires g c =
    not_all c.args.inodes (g.B.Blocks.blocks c.args.blocks.now) (c.in-Err-Full.ensures.full c.in-Err-Full.field-0-is).0 c.requires.few

pub overflow_sub-free : goal.overflow_sub-free
overflow_sub-free g c =
    one_is_left c.args.inodes c.args.free.now (g.B.Blocks.blocks c.args.blocks.now) c.requires.room c.requires.rule c.requires.few
    c.requires.known

pub returns-in-Ok-clause-known : goal.returns-in-Ok-clause-known
returns-in-Ok-clause-known g c =
    let old = g.B.Blocks.blocks c.args.blocks.now in
    let one = one_is_left c.args.inodes c.args.free.now old c.requires.room c.requires.rule c.requires.few c.requires.known in
    known_created c.args.inodes c.args.name.now c.in-Ok.at c.args.free.now (c.args.free.now.inodes - 1) old
    (g.B.Blocks.blocks c.create_absent.new.blocks) c.requires.room c.requires.rule c.in-Ok.ensures.created c.in-Ok.ensures.marks
    (omega (arith, one)) c.requires.known
