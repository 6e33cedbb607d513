-- A change that may follow, as the calls of a spool take it.
use Rattle.std.proofs.Common.{◌<◌, ◌^◌, arith}
use Rattle.model.specs.Lawful.{MayExpire}
use Rattle.model.specs.declared.change.Expiry.{Expiry}
use Rattle.model.proofs.HoldsOne.{changes_few, high_few}
use Rattle.spool.specs.View.{IsSpool, SpoolView}

-- the number of an expiry is at most the number of changes
pub number_fits : (s : SpoolView) → IsSpool s → (e : Expiry) → MayExpire s.changes e → e.number < 2 ^ 32
number_fits s is e may =
    omega (arith, may.to_high, high_few s.changes e.group, changes_few s.host s.inodes s.blocks s.changes is.held, is.room.few)
