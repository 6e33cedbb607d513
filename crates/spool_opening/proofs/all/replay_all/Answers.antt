use Rattle.std.proofs.Common.{rules, arith}
use Rattle.spool_opening.proofs.Whole.{as_many, none_replayed}
use Rattle.spool_opening.proofs.all.replay_all.Goals as goal

pub loop-done-init : goal.loop-done-init
loop-done-init g c = none_replayed c.args.host.now c.args.inodes (g.B.Blocks.blocks c.args.blocks.now) c.new.result c.new-2.result
    c.new.ensures c.new-2.ensures

pub returns-in-Err-clause-damaged : goal.returns-in-Err-clause-damaged
returns-in-Err-clause-damaged g c = λ e S held.
    let many = as_many c.args.host.now c.args.inodes (g.B.Blocks.blocks c.args.blocks.now) S c.args.files.now.slots.items
    c.args.files.now.named c.args.files.now.packed c.args.count c.requires.room.few held c.requires.sorted c.requires.first in
    c.in-Err.ensures.damaged e S held (omega (arith, many, c.loop-done-test.true))

pub returns-clause-ok : goal.returns-clause-ok
returns-clause-ok c = search rules
