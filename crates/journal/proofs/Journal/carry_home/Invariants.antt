use Rattle.std.proofs.Common.{◌-◌, length}
use Rattle.journal.specs.Journal.{calls, sizes}
use Rattle.journal.specs.Order.{all_calls}
use Rattle.journal.proofs.During.{IsOnTheWay}
use Rattle.journal.proofs.Journal.carry_home.Given as goal

abbrev pub invariant-loop-self : goal.invariant-loop-self
invariant-loop-self g l = IsOnTheWay g.D.Disk.device l.fn.self l.self

abbrev pub decreases-loop-self : goal.decreases-loop-self
decreases-loop-self g l = all_calls (length l.self.numbers) (sizes l.self) - calls l.self
