-- What a change of one file's content leaves, and what it leaves of the marks in the bitmap.
use Rattle.std.specs.Prelude.{◌≡◌, ◌<◌, ℕ, true, Some, List, length, slice_set}
use Rattle.model.specs.Stream.{Octets}
use Rattle.model.specs.Files.{table, is_marked_used}
use Rattle.model.specs.Files.{bitmap_bits}
use Rattle.fs_layout.specs.Table.{IsFileAt, Makes}
use Rattle.fs_inodes.specs.Growing.{TakesLowest}

-- the file of inode k gets this content, and no other file changes
pub record ReplacesContent (inodes k : ℕ) (content : Octets) (old new : List Octets) : Type 0 where
  pub name : Octets
  pub was : Octets
  pub there : IsFileAt (table inodes old) k name was
  pub makes : Makes inodes (slice_set (table inodes old) k (Some (record { name = name; content = content }))) new

-- no block is taken, and none is freed
pub record SameMarks (old new : List Octets) : Type 0 where
  pub count : length new ≡ length old
  pub marks : (b : ℕ) → b < bitmap_bits (length old) → is_marked_used new b ≡ is_marked_used old b

-- no block is taken
abbrev pub TakesNone : List Octets → List Octets → Type 0
TakesNone old new = (b : ℕ) → b < bitmap_bits (length old) → is_marked_used new b ≡ true → is_marked_used old b ≡ true

-- the file of this name gets the content that the change makes of its own, and the lowest blocks are taken
abbrev pub Rewrites : ℕ → Octets → (Octets → Octets) → List Octets → List Octets → Type 0
Rewrites inodes name change old new =
    (k : ℕ) × (content : Octets) × IsFileAt (table inodes old) k name content
    × ReplacesContent inodes k (change content) old new × TakesLowest old new
