-- Device calls, and what each does: the clauses of the trait `Disk`.
use Rattle.std.specs.Prelude.{◌≡◌, ◌⊎◌, ℕ, Bool, IsTrue, List, [], ◌∷◌, length, Result, Ok, IsErr, IfErr}
use Rattle.disk.specs.Device.{Device, Elapses, HasCause, IsRead, IsSync, IsWrite, LeavesNoMore, LeavesOnly, LeftNoMore, LeftTornAt, OnAsked}
use Rattle.disk.specs.Device.{OnRefused, OnTold, TearsAt}
use Rattle.disk.specs.Image.{overwritten, part}
use Rattle.disk.specs.declared.DiskError.{DiskError}
use Rattle.disk.specs.declared.DiskError.TheVariants.{Fault, Memory}

-- octets to be written from a place on, or a sync
pub data Call : Type 0 where
  Write : ℕ → List ℕ → Call
  Sync : Call

-- one read of n octets from this place on, what it gave, and its answer
pub record Reads (at n : ℕ) (octets : List ℕ) (result : Result (Unit {0}) DiskError) (old new : Device) : Type 0 where
  pub value : OnTold result old (octets ≡ part at n old.content)
  pub content : OnTold result old (new.content ≡ old.content)
  pub crash : LeavesNoMore old new
  pub since : LeftNoMore old new
  pub time : Elapses old new
  pub call : IsRead old new
  pub cause : HasCause result old new
  pub no_memory : IfErr result (λ error. error ≡ Fault)

-- one write of these octets at this place, and its answer; `grows` is whether a write takes memory
pub record Writes (grows : Bool) (at : ℕ) (octets : List ℕ) (result : Result (Unit {0}) DiskError) (old new : Device) : Type 0 where
  pub content : OnTold result old (new.content ≡ overwritten at octets old.content)
  pub crash : TearsAt at (length octets) old new
  pub since : LeftTornAt at (length octets) old new
  pub time : Elapses old new
  pub call : OnAsked result (IsWrite old new)
  pub cause : HasCause result old new
  pub refused : OnRefused result old new
  pub memory : IfErr result (λ error. error ≡ Memory → IsTrue grows)

-- one sync, and its answer; `grows` is whether a sync takes memory
pub record Syncs (grows : Bool) (result : Result (Unit {0}) DiskError) (old new : Device) : Type 0 where
  pub durable : OnTold result old (LeavesOnly new old.content)
  pub content : OnTold result old (new.content ≡ old.content)
  pub crash : LeavesNoMore old new
  pub since : LeftNoMore old new
  pub time : Elapses old new
  pub call : OnAsked result (IsSync old new)
  pub cause : HasCause result old new
  pub refused : OnRefused result old new
  pub memory : IfErr result (λ error. error ≡ Memory → IsTrue grows)

-- this call, of a device whose writes and syncs take memory or not
abbrev pub Does : (write_grows sync_grows : Bool) → Call → Result (Unit {0}) DiskError → Device → Device → Type 0
Does write_grows sync_grows (Write at octets) result old new = Writes write_grows at octets result old new
Does write_grows sync_grows Sync result old new = Syncs sync_grows result old new

-- These calls in their order, each once, up to the first that is refused. That refusal is the answer; without one the
-- answer is Ok.
abbrev pub Makes : {D : Type 0} → (D → Device) → (write_grows sync_grows : Bool) → List Call → Result (Unit {0}) DiskError → D → D → Type 0
Makes {D} device write_grows sync_grows [] result old new = (result ≡ Ok tt) × (new ≡ old)
Makes {D} device write_grows sync_grows (call ∷ calls) result old new =
    ((mid : D) × (Does write_grows sync_grows call (Ok tt) (device old) (device mid)
    × Makes device write_grows sync_grows calls result mid new))
    ⊎ (IsErr result × Does write_grows sync_grows call result (device old) (device new))
