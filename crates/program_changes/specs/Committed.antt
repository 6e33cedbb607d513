-- What a commit leaves of a volume.
use Rattle.std.specs.Prelude.{◌≡◌, ◌≢◌, Bool, IsTrue, Result, OnOk, IfErr}
use Rattle.disk.specs.Device.{Device}
use Rattle.journal.specs.Journal.{IsReady}
use Rattle.journal.specs.declared.JournalError.{JournalError}
use Rattle.journal.specs.declared.JournalError.TheVariants.{Fault, Halted, Memory}
use Rattle.volume_store.specs.Saved.{GoesOn, IsSaved, LeavesPrefix, StoreView}

-- the device failed, or memory was refused to it
pub record IsOfDevice {D : Type 0} (device : D → Device) (grows : Bool) (old new : StoreView D) (error : JournalError) : Type 0 where
  pub fault : error ≡ Fault → (device new.journal.disk).failures ≢ (device old.journal.disk).failures
  pub memory : error ≡ Memory → IsTrue grows
  pub halted : error ≡ Halted → IsReady old.journal → ⊥

-- all changes are durable, or the device failed; in both cases a crash leaves those that were, or all
pub record Commits {D T : Type 0} (device : D → Device) (grows : Bool) (old new : StoreView D)
    (result : Result T JournalError) : Type 0 where
  pub saved : OnOk result (IsSaved device new)
  pub spool : new.spool ≡ record old.spool { dirty = new.spool.dirty }
  pub prefix : LeavesPrefix device old new
  pub goes_on : GoesOn device old new
  pub refused : IfErr result (IsOfDevice device grows old new)
