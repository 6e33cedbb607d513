-- The device calls of a batch, and what each does.
use Rattle.std.specs.Prelude.{◌≡◌, ◌≤◌, ◌==◌, if◌then◌else◌, ℕ, ◌+◌, ◌*◌, false, true, IsTrue, List, [], ◌∷◌, length, slice_index}
use Rattle.std.specs.Prelude.{slice_index_or, Result, Ok}
use Rattle.std.specs.Prelude.{Err, OnOk, IfOk, IfErr, MatchResult}
use Rattle.disk.specs.declared.DiskError.{DiskError}
use Rattle.disk.specs.declared.DiskError.TheVariants as disk_error
use Rattle.disk.specs.Calls.{Call, Does}
use Rattle.disk.specs.Calls.Call.{Write, Sync}
use Rattle.disk.specs.Device.{Device, Elapses, IsRefused}
use Rattle.model.specs.Volume.{descriptor_of, descriptor_place, epoch_at, gate_place, home_place, image_place, other_epoch}
use Rattle.journal_laws.specs.Held.{HeldBatch}
use Rattle.journal_segments.specs.Staged.{Staged, staged_at}
use Rattle.journal.specs.Flight.{all_of, flight_in, held_at}
use Rattle.journal.specs.Journal.{CountsFailures, IsSameBatch, JournalView, LeavesAdmitted, LeftAdmitted, all_held, calls, sizes}
use Rattle.journal.specs.Journal.{with_batch}
use Rattle.journal.specs.Order.{IsMore, all_calls, answer, at_fault, following, syncs_made, writes_made}
use Rattle.journal.specs.declared.Progress.{Progress}
use Rattle.journal.specs.declared.Progress.TheVariants.{Committed}
use Rattle.journal.specs.declared.JournalError.{JournalError}
use Rattle.journal.specs.declared.JournalError.TheVariants.{Fault, Halted, Memory, NotAVolume}
use Rattle.journal.specs.declared.Next.{Next}
use Rattle.journal.specs.declared.Next.TheVariants.{Descriptor, Image, OpenGate, Home, Close}

-- what a call writes: the number of segments and the epoch of the volume, the segments that are open once the batch is
-- committed, and the place, the descriptor block and the images of the batch
pub record Written : Type 0 where
  pub segments : ℕ
  pub epoch : ℕ
  pub held : List HeldBatch
  pub place : ℕ
  pub descriptor : List ℕ
  pub images : List (List ℕ)

-- the next call; at `Idle` there is none
abbrev pub call_at : Next → Written → Call
call_at Descriptor w = Write (4096 * descriptor_place w.place) w.descriptor
call_at (Image i) w = Write (4096 * image_place w.place i) (slice_index_or w.images i [])
call_at OpenGate w = Write (4096 * gate_place w.place) (w.epoch ∷ [])
call_at (Home j i) w =
    Write (4096 * home_place w.segments (slice_index (held_at w.held j).batch.numbers i))
    (slice_index_or (held_at w.held j).batch.images i [])
call_at (Close j) w =
    if length w.held == w.segments then Write epoch_at (other_epoch w.epoch ∷ [])
    else Write (4096 * gate_place (held_at w.held j).place) (0 ∷ [])
call_at next w = Sync

-- what the calls write for the batch in the segment with this index, while those before it are open
abbrev pub written_in : List Staged → ℕ → ℕ → Written
written_in room filled epoch = record {
  segments = length room;
  epoch = epoch;
  held = all_of (flight_in room filled true);
  place = (staged_at room filled).place;
  descriptor = (staged_at room filled).descriptor;
  images = (staged_at room filled).images;
}

-- what those of a batch in flight write
abbrev pub written_by : {D : Type 0} → JournalView D → Written
written_by journal = record {
  segments = journal.segments;
  epoch = journal.epoch;
  held = all_held journal;
  place = journal.place;
  descriptor = descriptor_of journal.number journal.last journal.numbers;
  images = journal.images;
}

abbrev pub call_of : {D : Type 0} → JournalView D → Call
call_of journal = call_at journal.next (written_by journal)

-- the epoch after a good call: a write that closes all segments at once changes it
abbrev pub epoch_after : {D : Type 0} → JournalView D → Next → ℕ
epoch_after journal (Close j) = if length (all_held journal) == journal.segments then other_epoch journal.epoch else journal.epoch
epoch_after journal next = journal.epoch

-- the answer of the device that a step hands on
abbrev pub device_answer : Result Progress JournalError → Result (Unit {0}) DiskError
device_answer (Ok progress) = Ok tt
device_answer (Err Fault) = Err disk_error.Fault
device_answer (Err NotAVolume) = Err disk_error.Fault
device_answer (Err Halted) = Err disk_error.Fault
device_answer (Err Memory) = Err disk_error.Memory

-- the logical blocks after a good call: the sync that commits lays the batch over
abbrev pub blocks_after : {D : Type 0} → JournalView D → Progress → List (List ℕ)
blocks_after journal (Committed last) = with_batch journal
blocks_after journal progress = journal.blocks

-- one call of a batch in flight
pub record MakesCall {D : Type 0} (device : D → Device) (old new : JournalView D) (result : Result Progress JournalError) : Type 0 where
  pub does : Does true true (call_of old) (device_answer result) (device old.disk) (device new.disk)
  pub time : Elapses (device old.disk) (device new.disk)
  pub failures : CountsFailures result (device old.disk) (device new.disk)
  pub same : IsSameBatch old new
  pub epoch : OnOk result (new.epoch ≡ epoch_after old old.next)
  pub answers : IfOk result (λ progress. progress ≡ answer old.last (sizes old) old.next)
  pub next : OnOk result ((new.next ≡ following (length old.numbers) (sizes old) old.next) × (new.halted ≡ false))
  -- one more of the batch's calls was made
  pub counts : OnOk result ((calls new ≡ calls old + 1) × (calls new ≤ all_calls (length old.numbers) (sizes old)))
  -- what the device has counted since the batch began is what the batch has made
  pub writes : (first : ℕ) → IsMore (writes_made (length old.numbers) (sizes old) old.next) first (device old.disk).writes
      → OnOk result (IsMore (writes_made (length old.numbers) (sizes old) new.next) first (device new.disk).writes)
  pub syncs : (first : ℕ) → IsMore (syncs_made (sizes old) old.next) first (device old.disk).syncs
      → OnOk result (IsMore (syncs_made (sizes old) new.next) first (device new.disk).syncs)
  pub no_other : IfErr result (λ error. error ≡ Fault)
  pub halts : IfErr result (λ error. error ≡ Fault → (new.halted ≡ true) × (new.next ≡ at_fault (length old.numbers) (sizes old) old.next))
  pub blocks : IsTrue (device old.disk).tells
      → MatchResult result (λ progress. new.blocks ≡ blocks_after old progress) (λ _. new.blocks ≡ old.blocks)
  -- a crash now leaves an image that the journal admits, and so does one at any moment of the call
  pub now : LeavesAdmitted device new
  pub since : LeftAdmitted device old new

-- a call that the device refused for want of memory: it was not made, and is still the next one
pub record IsRetried {D : Type 0} (device : D → Device) (old new : JournalView D) : Type 0 where
  pub refused : IsRefused (device old.disk) (device new.disk)
  pub same : IsSameBatch old new
  pub epoch : new.epoch ≡ old.epoch
  pub next : new.next ≡ old.next
  pub running : new.halted ≡ old.halted
  pub blocks : IsTrue (device old.disk).tells → new.blocks ≡ old.blocks
  pub now : LeavesAdmitted device new
  pub since : LeftAdmitted device old new

-- the next call was made, good or failed
abbrev pub OnMade : {T : Type 0} → Result T JournalError → Type 0 → Type 0
OnMade result made = MatchResult result (λ _. made) (λ error. error ≡ Fault → made)

abbrev pub OnRetried : {T : Type 0} → Result T JournalError → Type 0 → Type 0
OnRetried result retried = IfErr result (λ error. error ≡ Memory → retried)
