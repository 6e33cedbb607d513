-- What a device is at one moment, and what each of its calls may do to that (the disk model, docs/THEOREM.md).
use Rattle.std.specs.Prelude.{◌≡◌, ◌≢◌, ◌⊎◌, ◌≤◌, ℕ, ◌+◌, ◌%◌, ◌^◌, Bool, IsTrue, List, Result, OnOk, IfErr, MatchResult}
use Rattle.disk.specs.Image.{Torn}
use Rattle.disk.specs.declared.DiskError.{DiskError}
use Rattle.disk.specs.declared.DiskError.TheVariants.{Fault, Memory}

-- a device at one moment
pub record Device : Type 1 where
  -- the number of its octets
  pub size : ℕ
  -- whether it tells its octets; if it does not, nothing is said of its content and images
  pub tells : Bool
  -- the octets that a read gives
  pub content : List ℕ
  -- the images that a crash at this moment may leave
  pub may_leave : List ℕ → Type 0
  -- the time, which never falls
  pub clock : ℕ
  -- the images that a crash at some moment since that time might have left
  pub left_since : ℕ → List ℕ → Type 0
  -- the numbers of reads, writes and syncs that were asked and of calls that failed, each as a u64 that wraps
  pub reads : ℕ
  pub writes : ℕ
  pub syncs : ℕ
  pub failures : ℕ

-- one more, as a u64 that wraps
abbrev pub one_more : ℕ → ℕ
one_more n = (n + 1) % 2 ^ 64

-- a crash leaves this image and no other
abbrev pub LeavesOnly : Device → List ℕ → Type 0
LeavesOnly device image = (c : List ℕ) → device.may_leave c → c ≡ image

-- after Ok, if the device tells its octets
abbrev pub OnTold : {T : Type 0} → Result T DiskError → Device → Type 0 → Type 0
OnTold result device told = IsTrue device.tells → OnOk result told

-- a crash leaves nothing that it could not have left before
abbrev pub LeavesNoMore : Device → Device → Type 0
LeavesNoMore old new = IsTrue old.tells → (c : List ℕ) → new.may_leave c → old.may_leave c

-- an image that might have been left, with any octets in the n from that place on
abbrev pub IsTornImage : ℕ → ℕ → Device → List ℕ → Type 0
IsTornImage at n old c = (d : List ℕ) × old.may_leave d × Torn at n d c

-- each image is an earlier one with any octets in the n from that place on
abbrev pub TearsAt : ℕ → ℕ → Device → Device → Type 0
TearsAt at n old new = IsTrue old.tells → (c : List ℕ) → new.may_leave c → IsTornImage at n old c

-- no call changes the size or whether the octets are told, and the time does not fall
pub record Elapses (old new : Device) : Type 0 where
  pub size : new.size ≡ old.size
  pub tells : new.tells ≡ old.tells
  pub later : old.clock ≤ new.clock

-- a crash since an earlier time might have left only what it might have left before
abbrev pub LeftNoMore : Device → Device → Type 0
LeftNoMore old new = IsTrue old.tells → (t : ℕ) (c : List ℕ) → t ≤ old.clock → new.left_since t c → old.left_since t c

-- a crash since an earlier time might have left only what it might have left before or, during or after a write, an
-- image torn where the write went
abbrev pub LeftTornAt : ℕ → ℕ → Device → Device → Type 0
LeftTornAt at n old new =
    IsTrue old.tells → (t : ℕ) (c : List ℕ) → t ≤ old.clock → new.left_since t c → old.left_since t c ⊎ IsTornImage at n old c

-- `Ok` leaves the count of failures as it was, and a fault changes it
pub record HasCause {T : Type 0} (result : Result T DiskError) (old new : Device) : Type 0 where
  pub ok : OnOk result (new.failures ≡ old.failures)
  pub fault : IfErr result (λ error. error ≡ Fault → new.failures ≢ old.failures)

-- the call was asked, unless it was refused for want of memory
abbrev pub OnAsked : {T : Type 0} → Result T DiskError → Type 0 → Type 0
OnAsked result asked = MatchResult result (λ _. asked) (λ error. error ≡ Fault → asked)

-- which calls were asked: one read, one write or one sync, and no other
pub record IsRead (old new : Device) : Type 0 where
  pub reads : new.reads ≡ one_more old.reads
  pub writes : new.writes ≡ old.writes
  pub syncs : new.syncs ≡ old.syncs

pub record IsWrite (old new : Device) : Type 0 where
  pub reads : new.reads ≡ old.reads
  pub writes : new.writes ≡ one_more old.writes
  pub syncs : new.syncs ≡ old.syncs

pub record IsSync (old new : Device) : Type 0 where
  pub reads : new.reads ≡ old.reads
  pub writes : new.writes ≡ old.writes
  pub syncs : new.syncs ≡ one_more old.syncs

-- A call that was refused for want of memory had no effect: the content and the counts are as before, and a crash
-- leaves nothing that it could not have left before.
pub record IsRefused (old new : Device) : Type 0 where
  pub time : Elapses old new
  pub content : IsTrue old.tells → new.content ≡ old.content
  pub crash : LeavesNoMore old new
  pub since : LeftNoMore old new
  pub reads : new.reads ≡ old.reads
  pub writes : new.writes ≡ old.writes
  pub syncs : new.syncs ≡ old.syncs
  pub failures : new.failures ≡ old.failures

abbrev pub OnRefused : {T : Type 0} → Result T DiskError → Device → Device → Type 0
OnRefused result old new = IfErr result (λ error. error ≡ Memory → IsRefused old new)

-- all that a device means is as it was
pub record IsUnchanged (old new : Device) : Type 0 where
  pub size : new.size ≡ old.size
  pub tells : new.tells ≡ old.tells
  pub content : new.content ≡ old.content
  pub may_leave : (c : List ℕ) → (new.may_leave c → old.may_leave c) × (old.may_leave c → new.may_leave c)
  pub clock : new.clock ≡ old.clock
  pub left_since : (t : ℕ) (c : List ℕ) → (new.left_since t c → old.left_since t c) × (old.left_since t c → new.left_since t c)
  pub reads : new.reads ≡ old.reads
  pub writes : new.writes ≡ old.writes
  pub syncs : new.syncs ≡ old.syncs
  pub failures : new.failures ≡ old.failures
