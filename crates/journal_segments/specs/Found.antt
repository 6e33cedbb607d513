-- What is read from the segments on a device.
use Rattle.std.specs.Prelude.{◌≡◌, ◌≢◌, ◌<◌, ◌≤◌, ℕ, ◌+◌, true, IsTrue, List, length, map, take}
use Rattle.std.specs.List.{filter, range_with_len}
use Rattle.disk.specs.Device.{Device}
use Rattle.model.specs.Volume.{IsDescriptor, StandsFor, block, blocks_from, descriptor_of, image_place, is_open, listed, number_at}
use Rattle.journal_laws.specs.Held.{AreRising, IsWrittenIn, held_at, sorted_held}
use Rattle.journal_segments.specs.Staged.{IsStaged, Staged, held_as, staged_at}
use Rattle.journal_segments.specs.declared.SegmentError.{SegmentError}
use Rattle.journal_segments.specs.declared.SegmentError.TheVariants.{Fault, NotAVolume}

-- calls that change nothing but the time: a crash leaves nothing that it could not have left before
pub record IsQuiet (old new : Device) : Type 0 where
  pub size : new.size ≡ old.size
  pub tells : new.tells ≡ old.tells
  pub later : old.clock ≤ new.clock
  pub writes : new.writes ≡ old.writes
  pub since : IsTrue old.tells → (t : ℕ) (c : List ℕ) → t ≤ old.clock → new.left_since t c → old.left_since t c
  pub crash : IsTrue old.tells → (c : List ℕ) → new.may_leave c → old.may_leave c

-- reads, of which none failed
pub record IsStill (old new : Device) : Type 0 where
  pub content : IsTrue old.tells → new.content ≡ old.content
  pub failures : new.failures ≡ old.failures
  pub syncs : new.syncs ≡ old.syncs

-- the room of a segment
pub record HasRoom (count : ℕ) (descriptor numbers octets : List ℕ) : Type 0 where
  pub descriptor_size : length descriptor ≡ 4096
  pub numbers_size : length numbers ≡ 512
  pub octets_size : length octets ≡ 2097152
  pub few : count ≤ 512

-- a segment that took a batch
pub record IsTaken (place number last : ℕ) (numbers octets : List ℕ) (s : Staged) : Type 0 where
  pub place_is : s.place ≡ place
  pub size : length s.descriptor ≡ 4096
  pub descriptor_is : s.descriptor ≡ descriptor_of number last numbers
  pub number_is : number_at 0 8 s.descriptor ≡ number
  pub last_is : number_at 8 8 s.descriptor ≡ last
  pub count : number_at 16 4 s.descriptor ≡ length numbers
  pub zero : number_at 20 4 s.descriptor ≡ 0
  pub lists : listed s.descriptor ≡ numbers
  pub numbers_are : s.numbers ≡ numbers
  pub images_are : s.images ≡ blocks_from 0 (length numbers) octets

-- the first images of a segment are in memory
abbrev pub AreLoaded : ℕ → ℕ → List ℕ → List ℕ → Type 0
AreLoaded place n image octets = (k : ℕ) → k < n → block (image_place place k) image ≡ block k octets

-- a segment in memory is the one at that place on the device
pub record IsReadFrom (device : Device) (blocks : ℕ) (s : Staged) : Type 0 where
  pub staged : IsStaged blocks s
  pub descriptor : IsDescriptor blocks s.descriptor
  pub written : IsTrue device.tells → IsWrittenIn s.place s.descriptor s.images device.content

-- a segment in memory is an open one, at a given place or after it
pub record IsOpened (device : Device) (blocks segments from : ℕ) (s : Staged) : Type 0 where
  pub read : IsReadFrom device blocks s
  pub below : s.place < segments
  pub above : from ≤ s.place
  pub opened : IsTrue device.tells → is_open s.place device.content ≡ true

-- the open segments from a place on are the first n in memory, in rising batch number
pub record AreFound (device : Device) (blocks from : ℕ) (room : List Staged) (n : ℕ) : Type 0 where
  pub within : n + from ≤ length room
  pub first : n ≡ 0 → (staged_at room 0).place ≡ 0
  pub each : (t : ℕ) → t < n → IsOpened device blocks (length room) from (staged_at room t)
  pub rise : AreRising (map held_as (take n room))
  pub are : IsTrue device.tells → (k : ℕ) → from + k ≡ length room
      → map held_as (take n room) ≡ sorted_held (held_at device.content (filter (λ s. is_open s device.content) (range_with_len from k)))

-- the image is not a volume
abbrev pub IsNoVolume : List ℕ → Type 0
IsNoVolume image = (its_label : List ℕ) (blocks : List (List ℕ)) → StandsFor image its_label blocks → ⊥

-- why the reads of an opening are refused
pub record Rejects (error : SegmentError) (old new : Device) : Type 0 where
  pub fault : error ≡ Fault → new.failures ≢ old.failures
  pub no_volume : error ≡ NotAVolume → IsTrue old.tells → IsNoVolume old.content
