use Rattle.world.proofs.Copying.{may_be_copied}
use Rattle.world.proofs.World.is_copied.Goals as goal

pub returns : goal.returns
returns g c = may_be_copied g.D.Disk.device c.args.self.now c.kept.ensures
