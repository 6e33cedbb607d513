-- What opening a kernel answers, and what it does to the journal.
use Rattle.std.specs.Prelude.{◌≡◌, ◌≢◌, ◌⊎◌, ◌≤◌, ◌==◌, if◌then◌else◌, ℕ, None, [], List, false, true, length, IsTrue}
use Rattle.disk.specs.Device.{Device, Elapses}
use Rattle.journal.specs.Journal.{Admits, HasWholeBlocks, IsIdle, IsSameBatch, JournalView, LeavesAdmitted, LeftAdmitted}
use Rattle.journal.specs.Opening.{IsMore}
use Rattle.journal.specs.Upgrading.{IsSameButFormat}
use Rattle.model.specs.Stream.{Octets}
use Rattle.model.specs.Files.{HasRoom, files_in, table}
use Rattle.model.specs.Layout.{AreOfFormat, Holds, HoldsIn, IsLabel}
use Rattle.model.specs.Packs.{HasNoPack}
use Rattle.model.specs.Spool.{Spool}
use Rattle.model.specs.SpoolFiles.{files_of}
use Rattle.spool.specs.View.{SpoolView}
use Rattle.kernel.specs.Kernel.{KernelView}
use Rattle.kernel.specs.declared.kernel_opening.LoadedBlocks.{LoadedBlocks}

-- ---- the logical blocks

-- the logical blocks of a journal, with what its label says of them; none has changed since
pub record HasBlocks {D : Type 0} (device : D → Device) (journal : JournalView D) (loaded : LoadedBlocks) : Type 0 where
  pub labelled : IsLabel journal.label journal.size loaded.inodes loaded.host.items
  pub format : loaded.format ≡ journal.format
  pub size : length loaded.volume.cache ≡ journal.size
  pub blocks : IsTrue (device journal.disk).tells → loaded.volume.cache ≡ journal.blocks
  pub seen : loaded.volume.seen ≡ loaded.volume.cache
  pub clean : loaded.volume.dirty ≡ []
  pub room : HasRoom loaded.inodes loaded.volume.cache

-- ---- the spool

-- a spool of this host that these blocks of a volume of this format hold, with no change since
pub record IsSpoolOf (format : ℕ) (host : Octets) (inodes : ℕ) (blocks : List Octets) (spool : SpoolView) : Type 0 where
  pub host_is : spool.host ≡ host
  pub inodes_are : spool.inodes ≡ inodes
  pub blocks_are : spool.blocks ≡ blocks
  pub clean : spool.dirty ≡ []
  pub holds : HoldsIn format spool.host spool.inodes spool.blocks spool.changes

-- the spool in the logical blocks of a journal, under its label, in files of its format
pub record IsLoaded {D : Type 0} (device : D → Device) (journal : JournalView D) (spool : SpoolView) : Type 0 where
  pub labelled : IsLabel journal.label journal.size spool.inodes spool.host
  pub size : length spool.blocks ≡ journal.size
  pub blocks : IsTrue (device journal.disk).tells → spool.blocks ≡ journal.blocks
  pub clean : spool.dirty ≡ []
  pub holds : HoldsIn journal.format spool.host spool.inodes spool.blocks spool.changes

-- ---- the kernel

-- a kernel that was just opened: all its changes are durable, and no session has joined
pub record IsFresh (kernel : KernelView) : Type 0 where
  pub durable : kernel.durable ≡ length kernel.spool
  pub in_flight : kernel.in_flight ≡ None
  pub halted : kernel.halted ≡ false
  pub dirty : kernel.dirty ≡ []
  pub joined : kernel.joined ≡ 0
  pub seats : kernel.seats ≡ []

-- the kernel in the logical blocks of a journal, under its label; its files are those of the journal's format
pub record IsOpened {D : Type 0} (device : D → Device) (journal : JournalView D) (kernel : KernelView) : Type 0 where
  pub fresh : IsFresh kernel
  pub labelled : IsLabel journal.label journal.size kernel.inodes kernel.host
  pub size : length kernel.blocks ≡ journal.size
  pub blocks : IsTrue (device journal.disk).tells → kernel.blocks ≡ journal.blocks
  pub holds : Holds kernel.host kernel.inodes kernel.blocks kernel.spool
  pub no_pack : journal.format ≤ 2 → HasNoPack (files_in (table kernel.inodes kernel.blocks))
  pub of_format : AreOfFormat journal.format (files_of kernel.spool)

-- the label is valid, and the logical blocks of a device that tells its octets hold no spool of the label's host in the
-- files of the journal's format
pub record IsDamaged {D : Type 0} (device : D → Device) (journal : JournalView D) : Type 0 where
  pub inodes : ℕ
  pub host : Octets
  pub labelled : IsLabel journal.label journal.size inodes host
  pub holds_none : IsTrue (device journal.disk).tells → (S : Spool) → HoldsIn journal.format host inodes journal.blocks S → ⊥

-- ---- the journal

-- the device was read, and nothing else was asked of it
pub record OnlyReads {D : Type 0} (device : D → Device) (old new : JournalView D) : Type 0 where
  pub idle : IsIdle new
  pub same : IsSameBatch old new
  pub blocks : IsTrue (device old.disk).tells → new.blocks ≡ old.blocks
  pub whole : HasWholeBlocks device new
  pub time : Elapses (device old.disk) (device new.disk)
  pub writes : (device new.disk).writes ≡ (device old.disk).writes
  pub syncs : (device new.disk).syncs ≡ (device old.disk).syncs
  -- a crash now leaves an image that the journal admits, and so does one at any moment since
  pub now : LeavesAdmitted device new
  pub since : LeftAdmitted device old new

-- The device was read, and the volume perhaps made one of format 3. A crash leaves its label and its logical blocks, in no
-- lower format than it had.
pub record ReadsAndUpgrades {D : Type 0} (device : D → Device) (old new : JournalView D) : Type 0 where
  pub same : IsSameButFormat old new
  pub blocks : IsTrue (device old.disk).tells → new.blocks ≡ old.blocks
  pub whole : HasWholeBlocks device new
  pub time : Elapses (device old.disk) (device new.disk)
  -- a crash now leaves an image that the journal admits, and one at any moment since leaves one that it admitted before
  pub now : LeavesAdmitted device new
  pub since : IsTrue (device old.disk).tells → (t : ℕ) (c : List ℕ) → t ≤ (device old.disk).clock → (device new.disk).left_since t c
      → (device old.disk).left_since t c ⊎ Admits old c

-- the writes that make a volume of this format one of format 3, and as many syncs
abbrev pub upgrade_calls : ℕ → ℕ
upgrade_calls format = if format == 3 then 0 else 1

-- the writes and syncs of an opening, after that of the journal
pub record CostsUpgrade (format : ℕ) (old new : Device) : Type 0 where
  pub writes : IsMore (upgrade_calls format) old.writes new.writes
  pub syncs : IsMore (upgrade_calls format) old.syncs new.syncs

-- no device call failed, and the journal runs
pub record IsStill {D : Type 0} (device : D → Device) (old new : JournalView D) : Type 0 where
  pub running : new.halted ≡ false
  pub failures : (device new.disk).failures ≡ (device old.disk).failures

-- a device call failed, and the journal is halted
pub record HasFailed {D : Type 0} (device : D → Device) (old new : JournalView D) : Type 0 where
  pub halted : new.halted ≡ true
  pub failures : (device new.disk).failures ≢ (device old.disk).failures

-- the sync of the upgrade was refused for want of memory: no device call failed, but the journal takes no batch until the
-- device is opened again
pub record IsUnsynced {D : Type 0} (device : D → Device) (old new : JournalView D) : Type 0 where
  pub older : old.format ≤ 2
  pub failures : (device new.disk).failures ≡ (device old.disk).failures
