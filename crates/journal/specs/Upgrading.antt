-- What opening the gate of format 3 does: one write of an octet of the superblock, and one sync.
use Rattle.std.specs.Prelude.{◌≡◌, ◌⊎◌, ℕ, ◌≤◌, false, true, IsTrue, List, Result, OnOk, IfErr}
use Rattle.disk.specs.Device.{Device, Elapses, IsRefused, LeavesOnly, one_more}
use Rattle.journal.specs.Journal.{Admits, CountsFailures, JournalView, LeavesAdmitted}
use Rattle.journal.specs.declared.JournalError.{JournalError}
use Rattle.journal.specs.declared.JournalError.TheVariants.{Fault, Memory}

-- nothing changes but the device, its blocks, the format, and whether it is halted; of the epoch nothing is said
pub record IsSameButFormat {D : Type 0} (old new : JournalView D) : Type 0 where
  pub label : new.label ≡ old.label
  pub size : new.size ≡ old.size
  pub segments : new.segments ≡ old.segments
  pub next : new.next ≡ old.next
  pub held : new.held ≡ old.held
  pub place : new.place ≡ old.place
  pub number : new.number ≡ old.number
  pub last : new.last ≡ old.last
  pub numbers : new.numbers ≡ old.numbers
  pub images : new.images ≡ old.images
  pub is_last : new.is_last ≡ old.is_last

-- a journal of format 1 or 2 becomes one of format 3
pub record Upgrades {D : Type 0} (device : D → Device) (old new : JournalView D) (result : Result (Unit {0}) JournalError) : Type 0 where
  pub same : IsSameButFormat old new
  pub epoch : new.epoch ≡ old.epoch
  pub blocks : IsTrue (device old.disk).tells → new.blocks ≡ old.blocks
  pub format : OnOk result (new.format ≡ 3)
  pub running : OnOk result (new.halted ≡ false)
  pub synced : IsTrue (device old.disk).tells → OnOk result (LeavesOnly (device new.disk) (device new.disk).content)
  pub writes : OnOk result ((device new.disk).writes ≡ one_more (device old.disk).writes)
  pub syncs : OnOk result ((device new.disk).syncs ≡ one_more (device old.disk).syncs)
  pub time : Elapses (device old.disk) (device new.disk)
  pub failures : CountsFailures result (device old.disk) (device new.disk)
  pub no_other : IfErr result (λ error. (error ≡ Fault) ⊎ (error ≡ Memory))
  pub halts : IfErr result (λ error. error ≡ Fault → new.halted ≡ true)
  pub memory : IfErr result (λ error. error ≡ Memory → (device new.disk).failures ≡ (device old.disk).failures)
  -- a crash now leaves the same volume, in format 3 if the answer is Ok
  pub now : LeavesAdmitted device new
  -- a crash during the call leaves it in the format that was or in a later one
  pub since : IsTrue (device old.disk).tells → (t : ℕ) (c : List ℕ) → t ≤ (device old.disk).clock → (device new.disk).left_since t c
      → (device old.disk).left_since t c ⊎ Admits old c

-- the write of the gate was refused for want of memory: the journal is as it was, and may be asked again
pub record IsUnasked {D : Type 0} (device : D → Device) (old new : JournalView D) : Type 0 where
  pub refused : IsRefused (device old.disk) (device new.disk)
  pub format : new.format ≡ old.format
  pub running : new.halted ≡ old.halted
