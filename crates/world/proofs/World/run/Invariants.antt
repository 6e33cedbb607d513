use Rattle.world.proofs.Running.{Running}
use Rattle.world.proofs.World.run.Given as goal

abbrev pub invariant-loop-place : goal.invariant-loop-place
invariant-loop-place g l = Running g.D.Disk.device g.D.Disk.write_grows g.D.Disk.sync_grows l.fn.self l.self l.events l.place
