-- A volume to which texts are added, and what its device leaves of them.
use Rattle.std.specs.Prelude.{◌≡◌, ◌⊎◌, ◌≤◌, ℕ, IsTrue, List, [], ◌++◌, length, take}
use Rattle.disk.specs.Device.{Device, Elapses}
use Rattle.journal.specs.Inside.{IsVolume}
use Rattle.journal.specs.Journal.{IsReady, JournalView}
use Rattle.model.specs.Layout.{Holds, IsLabel, Stands}
use Rattle.model.specs.Spool.{Spool}
use Rattle.model.specs.Stream.{Octets}
use Rattle.model.specs.Volume.{blocks_from, laid_over}
use Rattle.spool.specs.View.{SpoolView}
use Rattle.journal_volume.specs.Volume.{AgreeOutside, BatchView}

-- its journal, its spool, and how many of the spool's changes are durable
pub record StoreView (D : Type 0) : Type 0 where
  pub journal : JournalView D
  pub spool : SpoolView
  pub durable : ℕ

-- the journal's blocks are the cached ones except the dirty ones, and hold the first changes of the spool
pub record IsBehind (blocks : List Octets) (spool : SpoolView) (durable : ℕ) : Type 0 where
  pub agrees : AgreeOutside spool.dirty blocks spool.blocks
  pub holds : Holds spool.host spool.inodes blocks (take durable spool.changes)

-- the invariant of a store. Once a call of the device has failed, nothing is stated about the journal's blocks
pub record IsTied {D : Type 0} (device : D → Device) (journal : JournalView D) (spool : SpoolView) (durable : ℕ) : Type 0 where
  pub format : journal.format ≡ 3
  pub few : length spool.dirty ≤ 512
  pub labelled : IsLabel journal.label journal.size spool.inodes spool.host
  pub size : length spool.blocks ≡ journal.size
  pub durable_within : durable ≤ length spool.changes
  pub behind : IsReady journal → IsTrue (device journal.disk).tells → IsBehind journal.blocks spool durable

-- all changes are durable: each image that a crash may leave now stands for them
pub record IsSaved {D : Type 0} (device : D → Device) (store : StoreView D) : Type 0 where
  pub ready : IsReady store.journal
  pub all : store.durable ≡ length store.spool.changes
  pub clean : store.spool.dirty ≡ []
  pub leaves : IsTrue (device store.journal.disk).tells → (image : Octets) → (device store.journal.disk).may_leave image
      → Stands store.spool.host image store.spool.changes

-- a crash at a moment since the call began might have left what it might have left before, or an image that stands for
-- the changes that were durable, or one that stands for all changes
abbrev pub LeavesPrefix : {D : Type 0} → (D → Device) → StoreView D → StoreView D → Type 0
LeavesPrefix device old new =
    IsTrue (device old.journal.disk).tells → (t : ℕ) (image : Octets) → t ≤ (device old.journal.disk).clock
    → (device new.journal.disk).left_since t image
    → (device old.journal.disk).left_since t image
    ⊎ (Stands old.spool.host image (take old.durable old.spool.changes) ⊎ Stands old.spool.host image old.spool.changes)

-- ---- a store goes on

-- a crash at a moment since the earlier one might have left what it might have left before, or an image that stands for
-- the first changes of the later spool, at least those that were durable
abbrev pub LeavesFirst : {D : Type 0} → (D → Device) → StoreView D → StoreView D → Type 0
LeavesFirst device old new =
    IsTrue (device old.journal.disk).tells → (t : ℕ) (image : Octets) → t ≤ (device old.journal.disk).clock
    → (device new.journal.disk).left_since t image
    → (device old.journal.disk).left_since t image
    ⊎ ((n : ℕ) × (old.durable ≤ n) × (n ≤ length new.spool.changes) × Stands old.spool.host image (take n new.spool.changes))

-- from one moment to a later one the changes stay the first ones, those that were durable stay durable, and a crash leaves no less
pub record GoesOn {D : Type 0} (device : D → Device) (old new : StoreView D) : Type 0 where
  pub host : new.spool.host ≡ old.spool.host
  pub changes : (more : Spool) × (new.spool.changes ≡ old.spool.changes ++ more)
  pub durable : old.durable ≤ new.durable
  pub time : Elapses (device old.journal.disk) (device new.journal.disk)
  pub leaves : LeavesFirst device old new

-- ---- a batch

-- from one moment to a later one the label, the format and the number of blocks stay
pub record IsSameVolume {D : Type 0} (old new : JournalView D) : Type 0 where
  pub label : new.label ≡ old.label
  pub format : new.format ≡ old.format
  pub size : new.size ≡ old.size

-- a batch was carried to its end, after which these are the blocks
pub record Carries {D : Type 0} (device : D → Device) (old : JournalView D) (after : List Octets) (new : JournalView D) : Type 0 where
  pub ready : IsReady new
  pub tells : (device new.disk).tells ≡ (device old.disk).tells
  pub failures : (device new.disk).failures ≡ (device old.disk).failures
  pub blocks : IsTrue (device old.disk).tells → new.blocks ≡ after
  pub leaves : IsTrue (device old.disk).tells → (image : Octets) → (device new.disk).may_leave image
      → IsVolume old.format old.label after image

-- a crash since then might have left what it might have left before, the blocks of that time, or these
abbrev pub LeavesOneOf : {D : Type 0} → (D → Device) → JournalView D → List Octets → JournalView D → Type 0
LeavesOneOf device old after new =
    IsTrue (device old.disk).tells → (t : ℕ) (image : Octets) → t ≤ (device old.disk).clock → (device new.disk).left_since t image
    → (device old.disk).left_since t image ⊎ (IsVolume old.format old.label old.blocks image ⊎ IsVolume old.format old.label after image)

-- the blocks with a batch laid over
abbrev pub after_batch : List Octets → BatchView → List Octets
after_batch blocks batch = laid_over blocks batch.numbers (blocks_from 0 (length batch.numbers) batch.images)
