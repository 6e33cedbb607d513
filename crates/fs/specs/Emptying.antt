-- What makes the empty file system.
use Rattle.std.specs.Prelude.{◌≡◌, ◌<◌, ◌≤◌, ℕ, ◌+◌, ◌*◌, nat_lt, List, [], length, slice_index_or, slice_set}
use Rattle.std.specs.List.{All}
use Rattle.model.specs.Files.{is_marked_used}
use Rattle.model.specs.Stream.{Octets}
use Rattle.fs_layout.specs.Bits.{bit_of}

-- the block of the bitmap with this number, in which the first blocks of the volume are marked, this many
pub record MarksFirst (table first : ℕ) (bitmap : Octets) : Type 0 where
  pub whole : length bitmap ≡ 4096
  pub bits : (b : ℕ) → b < 32768 → bit_of bitmap b ≡ nat_lt (32768 * table + b) first

-- that block is put
pub record PutsBitmap (table first : ℕ) (old new : List Octets) : Type 0 where
  pub bitmap : Octets
  pub marks : MarksFirst table first bitmap
  pub puts : new ≡ slice_set old table bitmap

-- the first blocks of the bitmap, this many, mark the first blocks of the volume, and no other block has changed
pub record Emptied (first tables : ℕ) (old new : List Octets) : Type 0 where
  pub count : length new ≡ length old
  pub whole : All (λ b. length b ≡ 4096) old → All (λ b. length b ≡ 4096) new
  pub marks : (b : ℕ) → b < 32768 * tables → is_marked_used new b ≡ nat_lt b first
  pub rest : (n : ℕ) → tables ≤ n → slice_index_or new n [] ≡ slice_index_or old n []
