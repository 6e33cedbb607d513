use Rattle.world.proofs.Fitting.{now_fits}
use Rattle.world.proofs.Since.{step_during, step_since}
use Rattle.world.proofs.World.step.Goals as goal

pub returns-clause-now : goal.returns-clause-now
returns-clause-now g c = now_fits g.D.Disk.device c.happen-result.new.self c.kept-2.ensures

pub returns-clause-since : goal.returns-clause-since
returns-clause-since g c = step_since g.D.Disk.device g.D.Disk.write_grows g.D.Disk.sync_grows c.args.self.now c.happen-result.new.self
    c.args.event.now c.happen-result.result c.kept-2.ensures c.happen-result.ensures

pub returns-clause-during : goal.returns-clause-during
returns-clause-during g c =
    step_during g.D.Disk.device g.D.Disk.write_grows g.D.Disk.sync_grows c.args.self.now c.happen-result.new.self g.met.D.Disk.only_now
    c.kept.ensures
    (step_since g.D.Disk.device g.D.Disk.write_grows g.D.Disk.sync_grows c.args.self.now c.happen-result.new.self c.args.event.now
    c.happen-result.result c.kept-2.ensures c.happen-result.ensures)
