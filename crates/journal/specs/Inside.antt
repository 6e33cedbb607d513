-- What the fields of a journal keep between two calls.
use Rattle.std.specs.Prelude.{◌≡◌, ◌⊎◌, ◌<◌, ◌≤◌, ℕ, ◌+◌, ◌*◌, Bool, true, false, if◌then◌else◌, IsTrue, List, [], ◌∷◌, length, slice_index}
use Rattle.std.specs.Prelude.{slice_index_or, take}
use Rattle.disk.specs.Device.{Device, LeavesOnly, one_more}
use Rattle.disk.specs.Image.{overwritten, part}
use Rattle.model.specs.Volume.{gate_place, descriptor_place, image_place, home_place, descriptor_of, block, number_at, home_size, is_open}
use Rattle.model.specs.Volume.{segment_count, IsSuperblock, StandsFor, format_in, format_number, all_laid_over, home, laid_over}
use Rattle.model.specs.Volume.{epoch_at, epoch_in, epoch_of, logical_blocks, gate_closed, other_epoch}
use Rattle.journal_laws.specs.Held.{AreOpen, IsHomeOfHeld, IsHomeOnTheWay, IsWrittenIn, batches_of}
use Rattle.journal_laws.specs.Images.{IsCarried, IsInside, SameBut}
use Rattle.journal_segments.specs.Staged.{IsStaged, Staged, staged_at}
use Rattle.journal_segments.specs.Found.{AreFound}
use Rattle.journal.specs.Flight.{Flight, all_of, are_all, closing_block, flight_in, held_at, left_of, left_open, sizes_of}
use Rattle.journal.specs.declared.Next.{Next}
use Rattle.journal.specs.Order.{Carried, closings}
use Rattle.journal.specs.declared.Next.TheVariants.{Idle, Descriptor, Image, Seal, OpenGate, Commit, Home, Settle, Close, Finish}

-- the logical blocks of an image; while the commit is the next call, without the batch in that segment
abbrev pub blocks_without : ℕ → Next → List ℕ → List (List ℕ)
blocks_without place Commit image = logical_blocks (gate_closed place image)
blocks_without place next image = logical_blocks image

-- an image stands for these blocks or, during the commit, for those with the batch
abbrev pub IsAdmitted : Next → List ℕ → List (List ℕ) → List (List ℕ) → List ℕ → Type 0
IsAdmitted next label blocks after image = StandsFor image label blocks ⊎ ((next ≡ Commit) × StandsFor image label after)

-- the volume with a label and blocks, in no lower format
abbrev pub IsVolume : ℕ → List ℕ → List (List ℕ) → List ℕ → Type 0
IsVolume format its_label blocks image = StandsFor image its_label blocks × (format ≤ format_number image)

-- what the content holds while this call comes next
abbrev pub Holds : Flight → Next → List ℕ → Type 0
Holds flight Idle image = AreOpen (left_of flight) image
Holds flight Descriptor image = AreOpen flight.held image × (is_open flight.batch.place image ≡ false)
Holds flight (Image i) image =
    AreOpen flight.held image × (is_open flight.batch.place image ≡ false)
    × (block (descriptor_place flight.batch.place) image ≡ flight.batch.descriptor)
    × ((k : ℕ) → k < i → block (image_place flight.batch.place k) image ≡ slice_index_or flight.batch.images k [])
Holds flight Seal image =
    AreOpen flight.held image × (is_open flight.batch.place image ≡ false)
    × IsWrittenIn flight.batch.place flight.batch.descriptor flight.batch.images image
Holds flight OpenGate image =
    AreOpen flight.held image × (is_open flight.batch.place image ≡ false)
    × IsWrittenIn flight.batch.place flight.batch.descriptor flight.batch.images image
Holds flight Commit image =
    AreOpen flight.held (gate_closed flight.batch.place image) × (is_open flight.batch.place image ≡ true)
    × IsWrittenIn flight.batch.place flight.batch.descriptor flight.batch.images image
Holds flight (Home j i) image =
    AreOpen (all_of flight) image ×
    ((first : List (List ℕ)) × IsHomeOnTheWay first (take j (all_of flight)) (held_at (all_of flight) j).batch i image)
Holds flight Settle image = AreOpen (all_of flight) image
    × ((first : List (List ℕ)) × (home image ≡ all_laid_over first (batches_of (all_of flight))))
Holds flight (Close j) image = AreOpen (left_open (are_all flight) j (all_of flight)) image × IsCarried image
Holds flight (Finish j) image = AreOpen (left_open (are_all flight) (j + 1) (all_of flight)) image × IsCarried image

-- the blocks that were written since the last sync
abbrev pub Touched : Flight → Next → ℕ → Type 0
Touched flight (Image i) k = IsInside flight.batch.place k
Touched flight Seal k = IsInside flight.batch.place k
Touched flight Commit k = k ≡ gate_place flight.batch.place
Touched flight (Home j i) k = IsHomeOfHeld flight.segments (all_of flight) k
Touched flight Settle k = IsHomeOfHeld flight.segments (all_of flight) k
Touched flight (Finish j) k = k ≡ closing_block (are_all flight) j (all_of flight)
Touched flight next k = ⊥

-- the next call is for one of the n images, or for one of those that are carried home
abbrev pub IsWithin : ℕ → Carried → Next → Type 0
IsWithin n carried (Image i) = i < n
IsWithin n carried (Home j i) = (j < length carried.counts) × (i < slice_index carried.counts j)
IsWithin n carried Settle = 0 < length carried.counts
IsWithin n carried (Close j) = j < closings carried
IsWithin n carried (Finish j) = j < closings carried
IsWithin n carried next = Unit {0}

-- the batch is still to be committed, or it is in an open segment and a later batch will carry it home
abbrev pub IsOrdered : Bool → Next → Type 0
IsOrdered is_last Idle = is_last ≡ false
IsOrdered is_last Descriptor = Unit {0}
IsOrdered is_last (Image i) = Unit {0}
IsOrdered is_last Seal = Unit {0}
IsOrdered is_last OpenGate = Unit {0}
IsOrdered is_last Commit = Unit {0}
IsOrdered is_last next = ⊥

-- the segments in memory matter, unless all were carried home
abbrev pub IsLive : Bool → Next → Type 0
IsLive is_last Idle = is_last ≡ false
IsLive is_last next = Unit {0}

-- what the journal knows of a device that tells its octets
pub record IsTold (device : Device) (blocks : ℕ) (its_label : List ℕ) (next : Next) (halted : Bool) (flight : Flight) : Type 0 where
  pub stands : StandsFor device.content its_label (logical_blocks device.content)
  pub size : home_size device.content ≡ blocks
  pub count : segment_count device.content ≡ flight.segments
  pub admits : (c : List ℕ) → device.may_leave c
      → IsAdmitted next its_label (blocks_without flight.batch.place next device.content)
      (laid_over (blocks_without flight.batch.place next device.content) flight.batch.numbers flight.batch.images) c
  pub holds : halted ≡ false → Holds flight next device.content
  pub same : halted ≡ false → (c : List ℕ) → device.may_leave c → SameBut (Touched flight next) device.content c

-- What the journal keeps. Among its segments in memory, the one with the index `filled` belongs to the batch in flight,
-- and those before it are the open ones.
pub record IsKept (device : Device) (blocks : ℕ) (superblock : List ℕ) (next : Next) (halted : Bool) (room : List Staged) (filled : ℕ)
    (is_last : Bool) : Type 0 where
  pub size : device.size ≡ 4096 * home_place (length room) blocks
  pub low : 1024 ≤ blocks
  pub high : blocks ≤ 4194304
  pub superblock_size : length superblock ≡ 4096
  pub few : length room ≤ 8
  pub there : filled < length room
  pub place : (staged_at room filled).place < length room
  pub places : IsLive is_last next → (t : ℕ) → t ≤ filled → (staged_at room t).place < length room
  pub left : is_last ≡ false → filled + 1 < length room
  pub within : IsWithin (length (staged_at room filled).numbers) (sizes_of (flight_in room filled is_last)) next
  pub staged : IsLive is_last next → (t : ℕ) → t ≤ filled → IsStaged blocks (staged_at room t)
  -- until all are carried home the open segments are the first ones, with the batch numbers from 1 on
  pub order : IsOrdered is_last next → (t : ℕ) → t ≤ filled
      → ((staged_at room t).place ≡ t) × (number_at 0 8 (staged_at room t).descriptor ≡ t + 1)
  -- a descriptor that is still to be written has zeros after its numbers
  pub described : next ≡ Descriptor
      → (staged_at room filled).descriptor ≡ descriptor_of (number_at 0 8 (staged_at room filled).descriptor)
      (number_at 8 8 (staged_at room filled).descriptor) (staged_at room filled).numbers
  pub told : IsTrue device.tells → IsTold device blocks (part 20 128 superblock) next halted (flight_in room filled is_last)
  -- the format in memory is that of the content, and a crash leaves no lower one
  pub format_is : IsTrue device.tells → halted ≡ false → format_number device.content ≡ format_in superblock
  pub formats : IsTrue device.tells → (c : List ℕ) → device.may_leave c → format_in superblock ≤ format_number c
  -- the epoch in memory is that of the content
  pub epoch_is : IsTrue device.tells → halted ≡ false → epoch_of device.content ≡ epoch_in superblock

-- The superblock in memory after a good call, where this is the epoch. A write that closes all segments at once puts the other one there.
abbrev pub superblock_after : Bool → ℕ → Next → List ℕ → List ℕ
superblock_after all epoch (Close j) superblock = if all then overwritten epoch_at (other_epoch epoch ∷ []) superblock else superblock
superblock_after all epoch next superblock = superblock

-- a good sync, which leaves the content as it was
pub record IsSynced (old new : Device) : Type 0 where
  pub content : IsTrue old.tells → new.content ≡ old.content
  pub failures : new.failures ≡ old.failures
  pub syncs : new.syncs ≡ one_more old.syncs

-- what an opening reads, before it writes anything: the superblock, and the n open segments
pub record IsFound (device : Device) (superblock : List ℕ) (blocks : ℕ) (room : List Staged) (n : ℕ) : Type 0 where
  pub valid : IsSuperblock superblock device.size
  pub blocks_are : number_at 12 4 superblock ≡ blocks
  pub superblock_size : length superblock ≡ 4096
  pub superblock_is : IsTrue device.tells → superblock ≡ block 0 device.content
  pub synced : IsTrue device.tells → LeavesOnly device device.content
  pub count : length room ≡ number_at 16 4 superblock
  pub found : AreFound device blocks 0 room n

-- each image that a crash since an earlier time might have left is one that it might have left before, or the volume
-- with a label and blocks
abbrev pub LeftAs : Device → Device → ℕ → List ℕ → List (List ℕ) → Type 0
LeftAs old new format its_label blocks =
    IsTrue old.tells → (t : ℕ) (c : List ℕ) → t ≤ old.clock → new.left_since t c → old.left_since t c ⊎ IsVolume format its_label blocks c
