-- The gates of a volume, read and written back.
use Rattle.std.specs.Prelude.{◌≡◌, ◌⊎◌, ◌<◌, ◌≤◌, ℕ, ◌+◌, ◌-◌, ◌*◌, ◌==◌, Bool, if◌then◌else◌, IsTrue, List, [], ◌∷◌, length, slice_index}
use Rattle.std.specs.Prelude.{Result, IfErr, IsErr, OnOk}
use Rattle.disk.specs.Calls.{Call, Makes}
use Rattle.disk.specs.Calls.Call.{Write}
use Rattle.disk.specs.Device.{Device, Elapses, HasCause, LeavesNoMore, LeftNoMore}
use Rattle.disk.specs.declared.DiskError.{DiskError}
use Rattle.disk.specs.declared.DiskError.TheVariants.{Memory}
use Rattle.model.specs.Volume.{IsSuperblock, block, epoch_at, format_2_at, format_3_at, gate_place, segment_count}

-- the place of a gate, which is one octet: first those of formats 2 and 3, then the epoch, then that of each segment
unfoldable pub gate_at : ℕ → ℕ
gate_at i = if i == 0 then format_2_at else (if i == 1 then format_3_at else (if i == 2 then epoch_at else 4096 * gate_place (i - 3)))

-- the superblock is one of a volume of this size
abbrev pub HasSegments : Device → Type 0
HasSegments device = IsSuperblock (block 0 device.content) device.size

-- that many gates are within a device of this size
abbrev pub AreWithin : ℕ → ℕ → Type 0
AreWithin n size = (i : ℕ) → i < n → gate_at i < size

-- the number of gates on a device: 0 if its superblock is not that of a volume
abbrev pub IsCount : ℕ → Device → Type 0
IsCount n device = (HasSegments device × (n ≡ segment_count device.content + 3)) ⊎ ((HasSegments device → ⊥) × (n ≡ 0))

-- these are the octets of the first gates
abbrev pub AreGates : List ℕ → List ℕ → Type 0
AreGates octets image = (i : ℕ) → i < length octets → slice_index octets i ≡ slice_index image (gate_at i)

-- an octet written to each gate, starting with this one
abbrev pub writes_from : ℕ → List ℕ → List Call
writes_from i [] = []
writes_from i (octet ∷ octets) = Write (gate_at i) (octet ∷ []) ∷ writes_from (i + 1) octets

-- only reads: nothing was written, and a crash leaves nothing that it could not have left before
pub record IsLook (old new : Device) : Type 0 where
  pub time : Elapses old new
  pub writes : new.writes ≡ old.writes
  pub syncs : new.syncs ≡ old.syncs
  pub crash : LeavesNoMore old new
  pub since : LeftNoMore old new

-- reads that did not fail
pub record IsSeen (old new : Device) : Type 0 where
  pub content : IsTrue old.tells → new.content ≡ old.content
  pub failures : new.failures ≡ old.failures

-- The octet of each gate was read, and then each was written to its place, in rising order, up to the first refusal.
pub record WritesThem {D : Type 0} (device : D → Device) (write_grows sync_grows : Bool) (result : Result (Unit {0}) DiskError)
    (old new : D) : Type 0 where
  pub octets : List ℕ
  pub few : length octets ≤ 11
  pub read : D
  pub look : IsLook (device old) (device read)
  pub seen : IsSeen (device old) (device read)
  pub count : IsTrue (device old).tells → IsCount (length octets) (device old)
  pub gates : IsTrue (device old).tells → AreGates octets (device old).content
  pub written : Makes device write_grows sync_grows (writes_from 0 octets) result read new

-- the gates were written back up to the first refusal, or the call was refused before the first write
abbrev pub WritesBack : {D : Type 0} → (D → Device) → (write_grows sync_grows : Bool) → Result (Unit {0}) DiskError → D → D → Type 0
WritesBack device write_grows sync_grows result old new =
    WritesThem device write_grows sync_grows result old new ⊎ (IsErr result × IsLook (device old) (device new))

-- a place of one of these gates
abbrev pub IsGate : Device → ℕ → Type 0
IsGate device k = HasSegments device × ((i : ℕ) × ((i < segment_count device.content + 3) × (k ≡ gate_at i)))

-- the image with any octets at the gates of that device
pub record IsTornAtGates (device : Device) (old new : List ℕ) : Type 0 where
  pub size : length new ≡ length old
  pub others : (k : ℕ) → (IsGate device k → ⊥) → slice_index new k ≡ slice_index old k
  pub octets : (k : ℕ) → (slice_index new k ≡ slice_index old k) ⊎ (slice_index new k < 256)

-- an image that a device might have left, with any octets at its gates
abbrev pub MayLeaveTorn : Device → List ℕ → Type 0
MayLeaveTorn device c = (d : List ℕ) × (device.may_leave d × IsTornAtGates device d c)

-- What remains of the device. If every call was good, or one was refused for want of memory, a read gives what it gave
-- before. Until a sync a crash leaves an image that it might have left before, with any octets at the gates.
pub record Leaves (result : Result (Unit {0}) DiskError) (old new : Device) : Type 0 where
  pub content : IsTrue old.tells → OnOk result (new.content ≡ old.content)
  pub untaken : IsTrue old.tells → IfErr result (λ error. error ≡ Memory → new.content ≡ old.content)
  pub crash : IsTrue old.tells → (c : List ℕ) → new.may_leave c → MayLeaveTorn old c
  pub since : IsTrue old.tells → (t : ℕ) (c : List ℕ) → t ≤ old.clock → new.left_since t c → old.left_since t c ⊎ MayLeaveTorn old c
  pub time : Elapses old new
  pub syncs : new.syncs ≡ old.syncs
  pub cause : HasCause result old new
  pub uncounted : IfErr result (λ error. error ≡ Memory → new.failures ≡ old.failures)
