-- What ties the journal to the kernel.
use Rattle.std.specs.Prelude.{◌≡◌, ◌≢◌, ◌⊎◌, ◌<◌, ℕ, Bool, true, false, IsTrue, List, [], ◌∷◌, length, take, Some, None}
use Rattle.disk.specs.Device.{Device}
use Rattle.journal.specs.Journal.{JournalView, LeavesAdmitted, with_batch}
use Rattle.journal.specs.Order.{is_to_commit}
use Rattle.kernel.specs.Kernel.{KernelView, AgreesBehind}
use Rattle.kernel.specs.Kept.{IsKept}
use Rattle.model.specs.Stream.{Octets}
use Rattle.model.specs.Layout.{IsLabel}
use Rattle.model.specs.News.{Holds}
use Rattle.kernel_trace.specs.Traced.{FollowsPlain, IsServed}
use Rattle.world.specs.World.{News, IsDurable, HasFailed, WorldView, kernel_of}

-- blocks that hold the first p changes, and are the cached ones except for the dirty ones
pub record LieBehind (kernel : KernelView) (blocks : List Octets) (p : ℕ) : Type 0 where
  pub agrees : AgreesBehind kernel blocks
  pub holds : Holds kernel.host kernel.inodes blocks (take p kernel.spool)

-- whether the journal and the kernel are halted: a fault halts the journal at once, and the kernel when it learns of
-- the fault
abbrev pub AreFaults : Bool → Bool → List News → Type 0
AreFaults false halted news = (halted ≡ false) × (news ≡ [])
AreFaults true false news = news ≡ HasFailed ∷ []
AreFaults true true news = news ≡ []

-- the same if the service may have been stopped: that halts the kernel without a fault, and the device may fail later
abbrev pub AreFaultsOrStopped : Bool → Bool → List News → Type 0
AreFaultsOrStopped false halted news = news ≡ []
AreFaultsOrStopped true false news = news ≡ HasFailed ∷ []
AreFaultsOrStopped true true news = (news ≡ []) ⊎ (news ≡ HasFailed ∷ [])

-- blocks are dirty only if there are more than p changes
abbrev pub DirtyAfter : KernelView → ℕ → Type 0
DirtyAfter kernel p = kernel.dirty ≢ [] → p < length kernel.spool

-- no batch is in flight: the journal's blocks hold the durable changes
pub record IsQuiet {D : Type 0} (tells : Bool) (journal : JournalView D) (kernel : KernelView) (untold : List News) : Type 0 where
  pub none : kernel.in_flight ≡ None
  pub past : is_to_commit journal.next ≡ false
  pub blocks : IsTrue tells → LieBehind kernel journal.blocks kernel.durable
  pub dirty : DirtyAfter kernel kernel.durable
  pub faults : AreFaultsOrStopped journal.halted kernel.halted untold
  -- the service is stopped only once each accepted change is durable
  pub stopped : journal.halted ≡ false → kernel.halted ≡ true → kernel.durable ≡ length kernel.spool

-- a batch is in flight and not committed: the journal's blocks hold the durable changes, and with the batch those up to
-- its last serial
pub record IsFlying {D : Type 0} (tells : Bool) (journal : JournalView D) (kernel : KernelView) (untold : List News)
    (last : ℕ) : Type 0 where
  pub flies : kernel.in_flight ≡ Some last
  pub last_is : journal.last ≡ last
  pub waits : is_to_commit journal.next ≡ true
  pub size : IsTrue tells → length journal.blocks ≡ length kernel.blocks
  pub before : IsTrue tells → Holds kernel.host kernel.inodes journal.blocks (take kernel.durable kernel.spool)
  pub after : IsTrue tells → LieBehind kernel (with_batch journal) last
  pub more : kernel.durable < last
  pub dirty : DirtyAfter kernel last
  pub faults : AreFaults journal.halted kernel.halted untold

-- the batch is committed, and the kernel has yet to learn it
pub record IsCommitted {D : Type 0} (tells : Bool) (journal : JournalView D) (kernel : KernelView) (untold : List News)
    (last : ℕ) : Type 0 where
  pub flies : kernel.in_flight ≡ Some last
  pub past : is_to_commit journal.next ≡ false
  pub blocks : IsTrue tells → LieBehind kernel journal.blocks last
  pub more : kernel.durable < last
  pub dirty : DirtyAfter kernel last
  pub running : kernel.halted ≡ false
  pub later : List News
  pub told : untold ≡ IsDurable last ∷ later
  pub faults : AreFaults journal.halted false later

pub data Phase {D : Type 0} (tells : Bool) (journal : JournalView D) (kernel : KernelView) (untold : List News) : Type 0 where
  Quiet : IsQuiet tells journal kernel untold → Phase tells journal kernel untold
  Flying : (last : ℕ) → IsFlying tells journal kernel untold last → Phase tells journal kernel untold
  IsToBeTold : (last : ℕ) → IsCommitted tells journal kernel untold last → Phase tells journal kernel untold

-- How the label, size and blocks of the journal correspond to the kernel. The journal has format 3, since an image of
-- format 1 stands for no spool with a file of more than 4,235,264 octets, and one of format 1 or 2 for none in a pack.
pub record IsTied (tells : Bool) {D : Type 0} (world : WorldView D) : Type 0 where
  pub label : IsLabel world.journal.label (length (kernel_of world).blocks) (kernel_of world).inodes (kernel_of world).host
  pub size : world.journal.size ≡ length (kernel_of world).blocks
  pub format : world.journal.format ≡ 3
  pub phase : Phase tells world.journal (kernel_of world) world.untold

-- The invariant of the whole system: what is served is what the plain server serves, the kernel keeps what its lock
-- keeps, and the journal is tied to the kernel and admits what a crash may leave.
pub record IsWorld {D : Type 0} (device : D → Device) (world : WorldView D) : Type 0 where
  pub plain : FollowsPlain world.served
  pub served : IsServed world.served
  pub kernel : IsKept (kernel_of world)
  pub tied : IsTied (device world.journal.disk).tells world
  pub admits : LeavesAdmitted device world.journal
