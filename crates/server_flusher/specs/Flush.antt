-- A turn of the flusher, and its parts.
use Rattle.std.specs.Prelude.{◌≡◌, ◌≢◌, ◌⊎◌, ◌≤◌, ℕ, Bool, false, true, IsTrue, List, [], ◌∷◌, ◌++◌, length, Result, Ok, Err}
use Rattle.disk.specs.Device.{Device}
use Rattle.journal.specs.Journal.{JournalView, LeavesAdmitted, begins, sizes, with_batch}
use Rattle.journal.specs.Order.{following}
use Rattle.journal.specs.declared.Next.TheVariants.{Commit, Descriptor}
use Rattle.journal.specs.declared.Progress.{Progress}
use Rattle.journal.specs.declared.JournalError.{JournalError}
use Rattle.journal.specs.declared.JournalError.TheVariants.{Fault, Halted, Memory, NotAVolume}
use Rattle.model.specs.Volume.{StandsFor, blocks_from, laid_over}
use Rattle.journal_volume.specs.Volume.{BatchView}

-- the device failed between two moments
abbrev pub Failed : {D : Type 0} → (D → Device) → JournalView D → JournalView D → Type 0
Failed device old new = (device new.disk).failures ≢ (device old.disk).failures

-- the device did not fail between two moments
abbrev pub HasNotFailed : {D : Type 0} → (D → Device) → JournalView D → JournalView D → Type 0
HasNotFailed device old new = (device new.disk).failures ≡ (device old.disk).failures

-- the journal with this batch begun
abbrev pub begun : {D : Type 0} → JournalView D → BatchView → ℕ → JournalView D
begun journal batch last = begins journal last batch.numbers (blocks_from 0 (length batch.numbers) batch.images)

-- a batch that has begun, with no device call made for it
pub record HasBegun {D : Type 0} (device : D → Device) (journal : JournalView D) : Type 0 where
  pub running : journal.halted ≡ false
  pub next : journal.next ≡ Descriptor
  pub some : 1 ≤ length journal.numbers

-- the batch was committed: it is laid over the blocks, and no call after the commit was made
pub record Commits {D : Type 0} (device : D → Device) (old new : JournalView D) : Type 0 where
  pub tells : (device new.disk).tells ≡ (device old.disk).tells
  pub running : new.halted ≡ false
  pub next : new.next ≡ following (length new.numbers) (sizes new) Commit
  pub label : new.label ≡ old.label
  pub last : new.last ≡ old.last
  pub numbers : new.numbers ≡ old.numbers
  pub images : new.images ≡ old.images
  pub blocks : IsTrue (device old.disk).tells → new.blocks ≡ with_batch old
  pub failures : (device new.disk).failures ≡ (device old.disk).failures
  pub now : LeavesAdmitted device new

-- a number was raised: the batch in the buffer began with it, and a crash now leaves the blocks before the turn with
-- that batch laid over
pub record IsRaised {D : Type 0} (device : D → Device) (old new : JournalView D) (batch : BatchView) (n : ℕ) : Type 0 where
  pub last : new.last ≡ n
  pub numbers : new.numbers ≡ batch.numbers
  pub images : new.images ≡ blocks_from 0 (length batch.numbers) batch.images
  pub leaves : IsTrue (device old.disk).tells → (image : List ℕ) → (device new.disk).may_leave image
      → StandsFor image old.label (laid_over old.blocks new.numbers new.images)

-- what a turn raised: nothing, or one more number, that of its batch
abbrev pub Turns : {D : Type 0} → (D → Device) → JournalView D → JournalView D → List ℕ → List ℕ → BatchView → Type 0
Turns device old new raised_before raised batch =
    (raised ≡ raised_before) ⊎ ((n : ℕ) × (raised ≡ raised_before ++ n ∷ []) × IsRaised device old new batch n)

-- what a turn with a ticket raised: nothing, or the ticket's number, with which its batch began
abbrev pub Carries : {D : Type 0} → (D → Device) → JournalView D → JournalView D → List ℕ → List ℕ → BatchView → ℕ → Type 0
Carries device old new raised_before raised batch last =
    (raised ≡ raised_before) ⊎ ((raised ≡ raised_before ++ last ∷ []) × IsRaised device old new batch last)

-- whether a call of the journal failed; one that was refused for memory is asked again
abbrev pub has_failed : Result Progress JournalError → Bool
has_failed (Ok progress) = false
has_failed (Err Memory) = false
has_failed (Err Fault) = true
has_failed (Err NotAVolume) = true
has_failed (Err Halted) = true
