-- A renewed spool on its way into a new volume, and what a crash on the way leaves.
use Rattle.std.specs.Prelude.{◌≡◌, ◌⊎◌, ◌≤◌, ℕ, ◌+◌, ◌-◌, IsTrue, [], Some, true, length, slice_get, take}
use Rattle.disk.specs.Device.{Device, Elapses}
use Rattle.journal.specs.Journal.{IsReady}
use Rattle.model.specs.Layout.{Stands}
use Rattle.model.specs.Spool.{Spool}
use Rattle.model.specs.Stream.{Octets}
use Rattle.model.specs.declared.change.Change.{Change}
use Rattle.model_renewed.specs.Renewed.{renewed}
use Rattle.spool.specs.Refusals.{is_full_for}
use Rattle.spool.specs.View.{SpoolView}
use Rattle.volume_store.specs.Saved.{IsSaved, StoreView}

-- R has the first changes of the renewed S
abbrev pub IsFront : Spool → Spool → Type 0
IsFront S R = R ≡ take (length R) (renewed S)

-- a store without changes, of the host whose spool is renewed
pub record IsNew {D : Type 0} (old : SpoolView) (new : StoreView D) : Type 0 where
  pub empty : new.spool.changes ≡ []
  pub host : new.spool.host ≡ old.host

-- a crash at a moment since the call began might have left what it might have left before, or an image that stands for
-- the first changes of the renewed S
abbrev pub LeavesFronts : {D : Type 0} → (D → Device) → Spool → StoreView D → StoreView D → Type 0
LeavesFronts device S old new =
    IsTrue (device old.journal.disk).tells → (t : ℕ) (image : Octets) → t ≤ (device old.journal.disk).clock
    → (device new.journal.disk).left_since t image
    → (device old.journal.disk).left_since t image ⊎ ((n : ℕ) × Stands old.spool.host image (take n (renewed S)))

-- the store has the first changes of the renewed S, and a crash since the earlier moment left no others
pub record IsOnTheWay {D : Type 0} (device : D → Device) (S : Spool) (old new : StoreView D) : Type 0 where
  pub host : new.spool.host ≡ old.spool.host
  pub front : IsFront S new.spool.changes
  pub time : Elapses (device old.journal.disk) (device new.journal.disk)
  pub leaves : LeavesFronts device S old new

-- no call of the device failed meanwhile
pub record IsUnharmed {D : Type 0} (device : D → Device) (old new : StoreView D) : Type 0 where
  pub still : (device new.journal.disk).failures ≡ (device old.journal.disk).failures
  pub ready : IsReady old.journal → IsReady new.journal

-- there is no room for the change with this serial, which comes next; all before it are durable
pub record IsFullAt {D : Type 0} (device : D → Device) (S : Spool) (serial : ℕ) (new : StoreView D) : Type 0 where
  pub comes_next : serial ≡ length new.spool.changes + 1
  pub change : Change
  pub is_left : slice_get (renewed S) (serial - 1) ≡ Some change
  pub full : is_full_for new.spool change ≡ true
  pub saved : IsSaved device new
