-- What a new volume holds, what a refusal leaves, and what a crash leaves while a volume is made.
use Rattle.std.specs.Prelude.{◌≡◌, ◌≢◌, ◌⊎◌, ℕ, ◌+◌, ◌<◌, ◌≤◌, ◌/◌, IsTrue, List, [], ◌∷◌, length, slice_index, slice_index_or}
use Rattle.disk.specs.Device.{Device, Elapses, LeavesOnly}
use Rattle.disk.specs.Image.{overwritten, part}
use Rattle.fs.specs.Emptying.{Emptied}
use Rattle.journal.specs.declared.JournalError.{JournalError}
use Rattle.journal.specs.declared.JournalError.TheVariants.{Fault, Halted, Memory, NotAVolume}
use Rattle.journal_segments.specs.Found.{IsNoVolume}
use Rattle.model.specs.Files.{first_data}
use Rattle.model.specs.Layout.{Stands, label_octets}
use Rattle.model.specs.Stream.{Octets}
use Rattle.model.specs.Volume.{IsSuperblock, block, epoch_in, epoch_of, format_in, format_number, home_place, home_size, label_of, number_at}
use Rattle.model.specs.Volume.{segment_count}
use Rattle.journal_layout.specs.Formatting.{zero_block, zeroed}
use Rattle.volume_new.specs.Sizes.{device_size, segments}

-- the image is a volume of this plan, and stands for the spool without changes
pub record IsNewVolume (host : Octets) (blocks inodes format : ℕ) (image : Octets) : Type 0 where
  pub stands : Stands host image []
  pub has_label : label_of image ≡ label_octets inodes host
  pub has_format : format_number image ≡ format
  pub has_epoch : epoch_of image ≡ 1
  pub has_blocks : home_size image ≡ blocks
  pub has_segments : segment_count image ≡ segments

-- so is what a read gives of the device, and a crash leaves just that
pub record IsNew (host : Octets) (blocks inodes format : ℕ) (device : Device) : Type 0 where
  pub volume : IsNewVolume host blocks inodes format device.content
  pub synced : LeavesOnly device device.content

-- a new volume was made over whatever the device held
pub record Formats (host : Octets) (blocks inodes format : ℕ) (old new : Device) : Type 0 where
  pub made : IsTrue old.tells → IsNew host blocks inodes format new
  pub time : Elapses old new
  pub failures : new.failures ≡ old.failures

-- why no volume was made
pub record Spoils (error : JournalError) (old new : Device) : Type 0 where
  pub time : Elapses old new
  pub fault : error ≡ Fault → new.failures ≢ old.failures
  pub memory : error ≡ Memory → new.failures ≡ old.failures
  pub told : (error ≢ NotAVolume) × (error ≢ Halted)

-- Each image that a crash since an earlier time might have left is one that it might have left before, or one of these.
abbrev pub LeftOr : (Octets → Type 0) → Device → Device → Type 0
LeftOr Others old new =
    IsTrue old.tells → (t : ℕ) (image : Octets) → t ≤ old.clock → new.left_since t image → old.left_since t image ⊎ Others image

-- What a crash leaves while a volume is made, even within a call: what it might have left before, no volume, or the new one.
abbrev pub LeavesNoOther : Octets → ℕ → ℕ → ℕ → Device → Device → Type 0
LeavesNoOther host blocks inodes format = LeftOr (λ image. IsNoVolume image ⊎ IsNewVolume host blocks inodes format image)

-- ---- the steps to it

-- where the magic ends, and its last octet
abbrev pub magic_end : ℕ
magic_end = 7

abbrev pub last_of_magic : ℕ
last_of_magic = 0x31

-- the last octet of the magic isn't there
abbrev pub LacksMagic : Octets → Type 0
LacksMagic image = slice_index image magic_end ≢ last_of_magic

-- so it is with each image that a crash may leave
abbrev pub AllLackMagic : Device → Type 0
AllLackMagic device = (image : Octets) → device.may_leave image → LacksMagic image

-- calls by which no image gets the last octet of the magic
pub record LeavesItOut (old new : Device) : Type 0 where
  pub time : Elapses old new
  pub all : IsTrue old.tells → AllLackMagic old → AllLackMagic new
  pub since : AllLackMagic old → LeftOr LacksMagic old new

-- the blocks behind the superblock: zeros up to the home, and these at home
pub record IsLaid (blocks : ℕ) (homes : List Octets) (image : Octets) : Type 0 where
  pub size : length image ≡ device_size blocks
  pub count : length homes ≡ blocks
  pub before : (k : ℕ) → 0 < k → k < home_place segments 0 → block k image ≡ zero_block
  pub home : (k : ℕ) → k < blocks → block (home_place segments k) image ≡ slice_index_or homes k []

-- the blocks at home are zeros, but for the first blocks of the bitmap, this many, which mark the first blocks of the volume
pub record HasBitmap (first tables blocks : ℕ) (image : Octets) : Type 0 where
  pub homes : List Octets
  pub marked : Emptied first tables (zeroed blocks) homes
  pub laid : IsLaid blocks homes image

-- the number of blocks of the bitmap that have the bits of the first blocks, this many
abbrev pub tables_of : ℕ → ℕ
tables_of first = (first + 32767) / 32768

-- a superblock that says these numbers, of a volume with eight segments
pub record IsSuperblockOf (blocks : ℕ) (label : Octets) (format : ℕ) (superblock : Octets) : Type 0 where
  pub valid : IsSuperblock superblock (device_size blocks)
  pub has_blocks : number_at 12 4 superblock ≡ blocks
  pub has_segments : number_at 16 4 superblock ≡ segments
  pub has_label : part 20 128 superblock ≡ label
  pub has_format : format_in superblock ≡ format
  pub has_epoch : epoch_in superblock ≡ 1
  pub size : length superblock ≡ 4096

-- the volume with this superblock, but for the last octet of its magic
pub record IsLaidOut (blocks inodes : ℕ) (superblock image : Octets) : Type 0 where
  pub bitmap : HasBitmap (first_data blocks inodes) (tables_of (first_data blocks inodes)) blocks image
  pub octets : (k : ℕ) → k < 4096 → k ≢ magic_end → slice_index image k ≡ slice_index superblock k

-- the image with the last octet of the magic
abbrev pub completed : Octets → Octets
completed image = overwritten magic_end (last_of_magic ∷ []) image
