-- The marks of a bitmap, and what a batch says of them.
use Rattle.std.specs.Prelude.{◌≡◌, ◌<◌, ◌≤◌, ◌==◌, ◌*◌, ℕ, List, Option, Some, None, length, option_map, position, slice_index_or}
use Rattle.model.specs.Files.{bitmap_blocks}
use Rattle.model.specs.Stream.{Octets}
use Rattle.model.specs.Volume.{block}
use Rattle.volume_usage.specs.Usage.{marked, used_in}
use Rattle.volume_usage.specs.declared.tables.BitmapMarks.{BitmapMarks}
use Rattle.journal_volume.specs.Volume.{BatchView}

-- a batch as the kernel gives it: at most 512 blocks, and an image of each
abbrev pub IsWhole : BatchView → Type 0
IsWhole batch = (length batch.numbers ≤ 512) × (length batch.images ≡ 4096 * length batch.numbers)

-- the image of a block in a batch, if it has one
abbrev pub image_of : BatchView → ℕ → Option Octets
image_of batch number = option_map (λ place. block place batch.images) (position (λ n. n == number) batch.numbers)

-- the number of bits that are set in a block after a batch with this image of it, or with none
abbrev pub marked_after : ℕ → Option Octets → ℕ
marked_after before None = before
marked_after before (Some image) = used_in image

-- these are the marks of the bitmap of these blocks
pub record AreMarks (marks : BitmapMarks) (blocks : List Octets) : Type 0 where
  pub tables : marks.tables ≡ bitmap_blocks (length blocks)
  pub bits : (t : ℕ) → t < marks.tables → slice_index_or marks.bits t 0 ≡ marked blocks t
