-- What the calls state about the files.
use Rattle.std.specs.Prelude.{◌≡◌, ◌≢◌, ◌<◌, ℕ, Some, None, List, [], slice_index_or, slice_set}
use Rattle.model.specs.Stream.{Octets}
use Rattle.model.specs.Files.{table}
pub use Rattle.fs_layout.specs.Table.{IsName, IsFileAt, IsThere, file_names, Makes}
pub use Rattle.fs_inodes.specs.Growing.{blocks_for, HasNoRoomFor}

-- a new file in this inode, which is the lowest free one
pub record Creates (inodes : ℕ) (name : Octets) (place : ℕ) (old new : List Octets) : Type 0 where
  pub absent : ¬ (IsThere (table inodes old) name)
  pub below : place < inodes
  pub free : slice_index_or (table inodes old) place None ≡ None
  pub lowest : (k : ℕ) → k < place → slice_index_or (table inodes old) k None ≢ None
  pub makes : Makes inodes (slice_set (table inodes old) place (Some (record { name = name; content = [] }))) new

-- every inode has a file
abbrev pub HasNoFreeInode : ℕ → List Octets → Type 0
HasNoFreeInode inodes blocks = (k : ℕ) → k < inodes → slice_index_or (table inodes blocks) k None ≢ None

-- the file of this name is removed, and no other file changes
abbrev pub Unlinks : ℕ → Octets → List Octets → List Octets → Type 0
Unlinks inodes name old new =
    (k : ℕ) × (content : Octets) × IsFileAt (table inodes old) k name content × Makes inodes (slice_set (table inodes old) k None) new
