-- What loading the blocks leaves of the journal.
use Rattle.std.specs.Prelude.{◌≡◌, ℕ, ◌+◌, ◌*◌, ◌<◌, ◌≤◌, List, [], IsTrue, slice_index_or}
use Rattle.disk.specs.Device.{Device, Elapses}
use Rattle.journal.specs.Journal.{JournalView, IsIdle, IsSameBatch, LeavesAdmitted, LeftAdmitted}

-- only reads: the blocks stay, and a crash leaves what the journal admits
pub record Loads {D : Type 0} (device : D → Device) (old new : JournalView D) : Type 0 where
  pub same : IsSameBatch old new
  pub blocks : IsTrue (device old.disk).tells → new.blocks ≡ old.blocks
  pub idle : IsIdle new
  pub time : Elapses (device old.disk) (device new.disk)
  pub writes : (device new.disk).writes ≡ (device old.disk).writes
  pub syncs : (device new.disk).syncs ≡ (device old.disk).syncs
  pub now : LeavesAdmitted device new
  pub since : LeftAdmitted device old new

-- From a number on, as many blocks as this many octets hold are the given ones. Those before it are as they were.
pub record ArePut (start octets : ℕ) (given : ℕ → List ℕ) (old new : List (List ℕ)) : Type 0 where
  pub put : (k : ℕ) → 4096 * k + 4096 ≤ octets → slice_index_or new (start + k) [] ≡ given k
  pub before : (k : ℕ) → k < start → slice_index_or new k [] ≡ slice_index_or old k []
