use Rattle.world.proofs.Releases.{DrainsOn, left_to_give}
use Rattle.world.proofs.World.drain.Given as goal

abbrev pub invariant-releases : goal.invariant-releases
invariant-releases g l = DrainsOn g.D.Disk.device g.D.Disk.write_grows g.D.Disk.sync_grows l.fn.self l.self l.gives

abbrev pub decreases-releases : goal.decreases-releases
decreases-releases g l = left_to_give l.self l.gives
