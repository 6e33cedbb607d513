use Rattle.std.proofs.Common.{◌-◌, length}
use Rattle.journal.specs.Journal.{calls, sizes}
use Rattle.journal.specs.Order.{all_calls}
use Rattle.world.proofs.Settling.{Calling}
use Rattle.world.proofs.World.carry_out.Given as goal

abbrev pub invariant-calls : goal.invariant-calls
invariant-calls g l = Calling g.D.Disk.device g.D.Disk.write_grows g.D.Disk.sync_grows l.fn.self l.self

abbrev pub decreases-calls : goal.decreases-calls
decreases-calls g l = all_calls (length l.self.journal.numbers) (sizes l.self.journal) - calls l.self.journal
