use Rattle.std.proofs.Common.{◌-◌, length}
use Rattle.journal.specs.Journal.{calls, sizes}
use Rattle.journal.specs.Order.{all_calls}
use Rattle.volume_store.proofs.Carried.{IsCarrying}
use Rattle.volume_store.proofs.carrying.carry.Given as goal

abbrev pub invariant-calls : goal.invariant-calls
invariant-calls g l = IsCarrying g.D.Disk.device l.fn.journal l.journal

abbrev pub decreases-calls : goal.decreases-calls
decreases-calls g l = all_calls (length l.journal.numbers) (sizes l.journal) - calls l.journal
