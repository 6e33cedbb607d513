-- The journal as its callers see it, and what a crash leaves of it.
use Rattle.std.specs.Prelude.{◌≡◌, ◌≢◌, ◌⊎◌, ℕ, ◌+◌, ◌*◌, ◌<◌, ◌≤◌, ◌==◌, Bool, false, if◌then◌else◌, IsTrue, List, [], ◌∷◌, ◌++◌, length}
use Rattle.std.specs.Prelude.{Result, OnOk, IfErr}
use Rattle.std.specs.List.{All}
use Rattle.disk.specs.Device.{Device}
use Rattle.journal_laws.specs.Held.{HaveLess, HeldBatch, IsAmong}
use Rattle.journal.specs.Flight.{carried_of, none_carried}
use Rattle.journal.specs.Inside.{IsAdmitted, IsVolume}
use Rattle.journal.specs.Order.{Carried, calls_made}
use Rattle.model.specs.Volume.{AreDistinct, format_number, laid_over}
use Rattle.journal.specs.declared.JournalError.{JournalError}
use Rattle.journal.specs.declared.JournalError.TheVariants.{Fault, Memory}
use Rattle.journal.specs.declared.Next.{Next}
use Rattle.journal.specs.declared.Next.TheVariants.{Descriptor, Idle}

-- a journal over a device of the type D
pub record JournalView (D : Type 0) : Type 0 where
  pub disk : D
  pub label : List ℕ
  -- 1 to 3
  pub format : ℕ
  -- 1 or 2: the octet at the gate of a segment that is open
  pub epoch : ℕ
  -- the number of logical blocks, and the number of segments
  pub size : ℕ
  pub segments : ℕ
  -- the logical blocks, without the batch in flight until it is committed
  pub blocks : List (List ℕ)
  -- the next device call
  pub next : Next
  -- a device call has failed
  pub halted : Bool
  -- the segments that were open when the batch in flight began, in rising number
  pub held : List HeldBatch
  -- that batch: the place of its segment, its number, its last serial, and its images by their numbers
  pub place : ℕ
  pub number : ℕ
  pub last : ℕ
  pub numbers : List ℕ
  pub images : List (List ℕ)
  -- whether no other closed segment is left
  pub is_last : Bool

-- no batch is in flight, and a batch may begin
abbrev pub IsIdle : {D : Type 0} → JournalView D → Type 0
IsIdle journal = journal.next ≡ Idle

abbrev pub IsReady : {D : Type 0} → JournalView D → Type 0
IsReady journal = (journal.halted ≡ false) × IsIdle journal

-- the segments that are open once the batch in flight is committed
abbrev pub all_held : {D : Type 0} → JournalView D → List HeldBatch
all_held journal = journal.held ++ record {
  place = journal.place;
  batch = record { number = journal.number; last = journal.last; numbers = journal.numbers; images = journal.images };
} ∷ []

-- those that are open while no batch is in flight
abbrev pub still_open : {D : Type 0} → JournalView D → List HeldBatch
still_open journal = if journal.is_last then [] else all_held journal

-- what is carried home after the commit: nothing if another closed segment is left
abbrev pub sizes : {D : Type 0} → JournalView D → Carried
sizes journal = if journal.is_last then carried_of journal.segments (all_held journal) else none_carried

-- a batch that may begin: images of 1 to 512 of the logical blocks, each once
pub record MayBegin {D : Type 0} (journal : JournalView D) (numbers octets : List ℕ) : Type 0 where
  pub ready : IsReady journal
  pub some : 1 ≤ length numbers
  pub few : length numbers ≤ 512
  pub below : All (λ n. n < journal.size) numbers
  pub distinct : AreDistinct numbers
  pub images : length octets ≡ 4096 * length numbers

-- A journal that takes a batch into the lowest closed segment. The open segments are the first ones, and have the batch
-- numbers from 1 on.
abbrev pub begins : {D : Type 0} → JournalView D → ℕ → List ℕ → List (List ℕ) → JournalView D
begins journal last numbers images = record journal {
  next = Descriptor;
  held = still_open journal;
  place = length (still_open journal);
  number = length (still_open journal) + 1;
  last = last;
  numbers = numbers;
  images = images;
  is_last = length (still_open journal) + 1 == journal.segments;
}

-- the batch in flight is in the lowest closed segment, and has a greater number than those of the open ones
pub record IsNextBatch {D : Type 0} (journal : JournalView D) : Type 0 where
  pub lowest : (s : ℕ) → s < journal.place → IsAmong s journal.held
  pub closed : IsAmong journal.place journal.held → ⊥
  pub greatest : HaveLess journal.number journal.held

-- the number of device calls of the batch in flight that were made
abbrev pub calls : {D : Type 0} → JournalView D → ℕ
calls journal = calls_made (length journal.numbers) (sizes journal) journal.next

-- the logical blocks with the batch in flight laid over
abbrev pub with_batch : {D : Type 0} → JournalView D → List (List ℕ)
with_batch journal = laid_over journal.blocks journal.numbers journal.images

-- an image that a crash may leave. It stands for the blocks or, while the commit is the next call, for the blocks with
-- the batch. It has no lower format
abbrev pub Admits : {D : Type 0} → JournalView D → List ℕ → Type 0
Admits journal image = IsAdmitted journal.next journal.label journal.blocks (with_batch journal) image
    × (journal.format ≤ format_number image)

-- each image that a crash at this moment may leave is one that the journal admits
abbrev pub LeavesAdmitted : {D : Type 0} → (D → Device) → JournalView D → Type 0
LeavesAdmitted device journal = IsTrue (device journal.disk).tells → (c : List ℕ) → (device journal.disk).may_leave c → Admits journal c

-- each image that a crash since an earlier time might have left is one that it might have left before, or one that the
-- journal admits
abbrev pub LeftAdmitted : {D : Type 0} → (D → Device) → JournalView D → JournalView D → Type 0
LeftAdmitted device old new =
    IsTrue (device old.disk).tells → (t : ℕ) (c : List ℕ) → t ≤ (device old.disk).clock → (device new.disk).left_since t c
    → (device old.disk).left_since t c ⊎ Admits new c

-- this number of blocks, each of 4,096 octets
pub record AreWhole (size : ℕ) (blocks : List (List ℕ)) : Type 0 where
  pub count : length blocks ≡ size
  pub whole : All (λ block. length block ≡ 4096) blocks

-- the logical blocks of a device that tells its octets are whole, and as many as the journal says
abbrev pub HasWholeBlocks : {D : Type 0} → (D → Device) → JournalView D → Type 0
HasWholeBlocks device journal = IsTrue (device journal.disk).tells → AreWhole journal.size journal.blocks

-- no call of a batch changes the label, the format, the size or the batch in flight
pub record IsSameBatch {D : Type 0} (old new : JournalView D) : Type 0 where
  pub label : new.label ≡ old.label
  pub format : new.format ≡ old.format
  pub size : new.size ≡ old.size
  pub segments : new.segments ≡ old.segments
  pub held : new.held ≡ old.held
  pub place : new.place ≡ old.place
  pub number : new.number ≡ old.number
  pub last : new.last ≡ old.last
  pub numbers : new.numbers ≡ old.numbers
  pub images : new.images ≡ old.images
  pub is_last : new.is_last ≡ old.is_last

-- `Ok` leaves the device's count of failures as it was, and a fault changes it
pub record CountsFailures {T : Type 0} (result : Result T JournalError) (old new : Device) : Type 0 where
  pub ok : OnOk result (new.failures ≡ old.failures)
  pub fault : IfErr result (λ error. error ≡ Fault → new.failures ≢ old.failures)

-- why a run of calls stopped: the device failed, or an allocation was refused to it
abbrev pub IsCaused : JournalError → Device → Device → Type 0
IsCaused error old new = ((error ≡ Fault) × (new.failures ≢ old.failures)) ⊎ ((error ≡ Memory) × (new.failures ≡ old.failures))

-- from one moment to a later one the logical blocks stay the same, as they do in each image that a crash in between
-- might have left
pub record IsDuring {D : Type 0} (device : D → Device) (old new : JournalView D) : Type 0 where
  pub tells : (device new.disk).tells ≡ (device old.disk).tells
  pub size : (device new.disk).size ≡ (device old.disk).size
  pub later : (device old.disk).clock ≤ (device new.disk).clock
  pub same : IsSameBatch old new
  pub blocks : IsTrue (device old.disk).tells → new.blocks ≡ old.blocks
  pub since : IsTrue (device old.disk).tells → (t : ℕ) (c : List ℕ) → t ≤ (device old.disk).clock → (device new.disk).left_since t c
      → (device old.disk).left_since t c ⊎ IsVolume old.format old.label old.blocks c
  pub now : IsTrue (device old.disk).tells → (c : List ℕ) → (device new.disk).may_leave c → IsVolume old.format old.label old.blocks c
