-- What a command makes of a volume that no server serves.
use Rattle.std.specs.Prelude.{◌≡◌, ◌⊎◌, ℕ, Bool, IsTrue, [], ◌∷◌, ◌++◌, Option, None, Some, Result, OnOk, IfErr, length}
use Rattle.disk.specs.Device.{Device}
use Rattle.model.specs.Layout.{Stands}
use Rattle.model.specs.Stream.{Octets}
use Rattle.model.specs.declared.change.Change.{Change}
use Rattle.volume_store.specs.Saved.{GoesOn, IsSaved, StoreView}
use Rattle.program_changes.specs.Committed.{IsOfDevice}
use Rattle.program_changes.specs.declared.not_done.NotDone.{NotDone}
use Rattle.program_changes.specs.declared.not_done.NotDone.TheVariants.{Refused, Device as OfDevice}

-- the change is made, and all changes are durable
pub record IsMade {D : Type 0} (device : D → Device) (old new : StoreView D) (c : Change) : Type 0 where
  pub host : new.spool.host ≡ old.spool.host
  pub changes : new.spool.changes ≡ old.spool.changes ++ c ∷ []
  pub saved : IsSaved device new

-- a crash at any moment since the call began leaves the changes before this one, or with it
abbrev pub LeavesEither : {D : Type 0} → (D → Device) → StoreView D → StoreView D → Change → Type 0
LeavesEither device old new c =
    IsTrue (device old.journal.disk).tells → (image : Octets)
    → (device new.journal.disk).left_since (device old.journal.disk).clock image
    → Stands old.spool.host image old.spool.changes ⊎ Stands old.spool.host image (old.spool.changes ++ c ∷ [])

-- the change is refused for the first test that fails, or for want of memory, and nothing changes; or no test fails, but the device
abbrev pub IsNotMade : {D E : Type 0} → (D → Device) → Bool → StoreView D → StoreView D → E → Option E → NotDone E → Type 0
IsNotMade device grows old new memory refusal (Refused error) =
    (((error ≡ memory) × (refusal ≡ None)) ⊎ (refusal ≡ Some error)) × (new ≡ old)
IsNotMade device grows old new memory refusal (OfDevice error) = (refusal ≡ None) × IsOfDevice device grows old new error

-- a change is made and durable, or it isn't
pub record Changes {D T E : Type 0} (device : D → Device) (grows : Bool) (old new : StoreView D) (c : Change) (memory : E)
    (refusal : Option E) (result : Result T (NotDone E)) : Type 0 where
  pub made : OnOk result ((refusal ≡ None) × IsMade device old new c)
  pub not_made : IfErr result (IsNotMade device grows old new memory refusal)
  pub crash : LeavesEither device old new c
  pub goes_on : GoesOn device old new

-- a volume all of whose changes were durable was opened, and this change came to them, with this serial. All are durable
pub record WasMade {D : Type 0} (device : D → Device) (c : Change) (serial : ℕ) : Type 0 where
  pub old : StoreView D
  pub new : StoreView D
  pub saved : IsSaved device old
  pub made : IsMade device old new c
  pub last : serial ≡ length new.spool.changes
