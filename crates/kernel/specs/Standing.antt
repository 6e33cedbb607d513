-- What an opening leaves of a device, and what a disk holds if its opening is refused.
use Rattle.std.specs.Prelude.{◌≡◌, ◌≢◌, ◌⊎◌, ℕ, IsTrue, List, length}
use Rattle.disk.specs.Device.{Device, Elapses}
use Rattle.model.specs.Stream.{Octets}
use Rattle.model.specs.Spool.{Spool}
use Rattle.model.specs.Layout.{HoldsIn, IsLabel}
use Rattle.model.specs.Volume.{StandsFor, format_number}
use Rattle.journal.specs.Opening.{LeavesVolume, LeftKept, NeverSyncs, SyncsFirst}
use Rattle.journal.specs.declared.JournalError.{JournalError}
use Rattle.journal.specs.declared.JournalError.TheVariants as journal
use Rattle.kernel.specs.Costs.{CostsToOpen}
use Rattle.kernel.specs.declared.kernel_opening.OpenError.{OpenError}
use Rattle.kernel.specs.declared.kernel_opening.OpenError.TheVariants.{Damaged, Fault, Memory, NotAVolume}

-- ---- what a disk holds

-- the image is not a volume with the label of a news server's volume of its size
abbrev pub IsNoNewsVolume : Octets → Type 0
IsNoNewsVolume image = (label : Octets) (blocks : List Octets) (inodes : ℕ) (host : Octets) → StandsFor image label blocks
    → IsLabel label (length blocks) inodes host → ⊥

-- the image is a labelled volume, and its blocks hold no lawful spool of the label's host in the files of its format
pub record IsDamagedVolume (image : Octets) : Type 0 where
  pub label : Octets
  pub blocks : List Octets
  pub inodes : ℕ
  pub host : Octets
  pub volume : StandsFor image label blocks
  pub labelled : IsLabel label (length blocks) inodes host
  pub holds_none : (S : Spool) → HoldsIn (format_number image) host inodes blocks S → ⊥

-- ---- what an opening leaves of the device

-- What a good opening leaves. No call failed. A crash at any moment of it leaves what a crash at the start might have left
-- or, from the first good sync on, which comes before every write, the volume that a read gives.
pub record LeavesOpened {D : Type 0} (device : D → Device) (before after : D) : Type 0 where
  pub still : (device after).failures ≡ (device before).failures
  pub time : Elapses (device before) (device after)
  pub volume : LeftKept (device before) (device after)
  pub moment : SyncsFirst device before after
  pub cost : IsTrue (device before).tells → CostsToOpen (device before).content (device before) (device after)
  pub left : IsTrue (device before).tells → LeavesVolume (device before).content (device after).content

-- What a refused opening leaves. Of a crash the same is said as of one in a good opening. Each error has its cause in the
-- device, in what it holds, or in the want of memory.
pub record LeavesRefused {D : Type 0} (device : D → Device) (before after : D) (error : OpenError) : Type 0 where
  pub time : Elapses (device before) (device after)
  pub volume : LeftKept (device before) (device after)
  pub moment : SyncsFirst device before after ⊎ NeverSyncs device before after
  -- what a device holds is judged only after a good sync
  pub judged : (error ≡ NotAVolume) ⊎ (error ≡ Damaged) → SyncsFirst device before after
  pub fault : error ≡ Fault → (device after).failures ≢ (device before).failures
  pub memory : error ≡ Memory → (device after).failures ≡ (device before).failures
  pub left : IsTrue (device before).tells → error ≡ Memory → LeavesVolume (device before).content (device after).content
  pub no_volume : error ≡ NotAVolume → IsTrue (device before).tells → IsNoNewsVolume (device before).content
  pub damaged : error ≡ Damaged → IsTrue (device before).tells → IsDamagedVolume (device before).content

-- the journal's refusals, as the opening reports them
abbrev pub open_error : JournalError → OpenError
open_error journal.Fault = Fault
open_error journal.Memory = Memory
open_error journal.NotAVolume = NotAVolume
open_error journal.Halted = Memory
