use Rattle.volume_renewing.proofs.Ways.{way_kept, way_then}
use Rattle.volume_renewing.proofs.change_copying.renew.Goals as goal

pub returns-in-Ok-clause-way : goal.returns-in-Ok-clause-way
returns-in-Ok-clause-way g c = λ new.
    way_then g.D.Disk.device c.args.old.now.changes c.args.new.now c.copy_all.new.new c.commit.new.self c.copy_all.ensures.way
    (way_kept g.D.Disk.device c.args.old.now.changes c.copy_all.new.new c.commit.new.self c.copy_all.ensures.way.front
    c.commit.ensures.spool c.commit.ensures.time c.commit.ensures.prefix)

pub returns-in-Err-clause-way : goal.returns-in-Err-clause-way
returns-in-Err-clause-way g c = λ new.
    way_then g.D.Disk.device c.args.old.now.changes c.args.new.now c.copy_all.new.new c.commit.new.self c.copy_all.ensures.way
    (way_kept g.D.Disk.device c.args.old.now.changes c.copy_all.new.new c.commit.new.self c.copy_all.ensures.way.front
    c.commit.ensures.spool c.commit.ensures.time c.commit.ensures.prefix)
