-- Why a renewal stops.
use Rattle.std.specs.Prelude.{◌≡◌, ◌≢◌, ℕ, Option, Some, None}
use Rattle.disk.specs.Device.{Device}
use Rattle.journal.specs.Journal.{IsReady}
use Rattle.journal.specs.declared.JournalError.{JournalError}
use Rattle.journal.specs.declared.JournalError.TheVariants as journal
use Rattle.model.specs.Spool.{Spool}
use Rattle.volume_store.specs.Saved.{StoreView}
use Rattle.volume_store.specs.declared.outcome.Lack.{Lack}
use Rattle.volume_store.specs.declared.outcome.Lack.TheVariants as lack
use Rattle.volume_renewing.specs.Renewing.{IsFullAt}
use Rattle.volume_renewing.specs.declared.errors.RenewalError.{RenewalError}
use Rattle.volume_renewing.specs.declared.errors.RenewalError.TheVariants.{Device as OfDevice, Full, Memory, NotNew}
use Rattle.volume_renewing.specs.declared.errors.Shortage.{Shortage}
use Rattle.volume_renewing.specs.declared.errors.Shortage.TheVariants as short

-- the journal's refusals, as a renewal reports them
abbrev pub stop_of : JournalError → RenewalError
stop_of journal.Fault = OfDevice journal.Fault
stop_of journal.NotAVolume = OfDevice journal.NotAVolume
stop_of journal.Halted = OfDevice journal.Halted
stop_of journal.Memory = Memory

-- why it stopped: there is no room for the next change; the device failed meanwhile, or had failed before
pub record IsStopped {D : Type 0} (device : D → Device) (S : Spool) (old new : StoreView D) (error : RenewalError) : Type 0 where
  pub full : (serial : ℕ) → error ≡ Full serial → IsFullAt device S serial new
  pub fault : error ≡ OfDevice journal.Fault → (device new.journal.disk).failures ≢ (device old.journal.disk).failures
  pub halted : error ≡ OfDevice journal.Halted → IsReady old.journal → ⊥
  pub is_new : error ≢ NotNew

-- what a volume without room for a change lacks, by what it lacks for its files
abbrev pub shortage_of : Option Lack → Shortage
shortage_of (Some lack.Blocks) = short.Blocks
shortage_of (Some lack.Inodes) = short.Inodes
shortage_of None = short.Files
