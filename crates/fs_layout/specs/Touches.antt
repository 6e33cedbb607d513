-- Which blocks a change reaches, and how many.
use Rattle.std.specs.Prelude.{◌≡◌, ◌≢◌, ◌⊎◌, ◌<◌, ◌≤◌, ℕ, ◌+◌, ◌-◌, ◌/◌, ◌%◌, nat_lt, if◌then◌else◌, List, [], length, slice_index_or}
use Rattle.std.specs.List.{Contains}
use Rattle.model.specs.Stream.{Octets}
use Rattle.model.specs.Files.{bitmap_blocks, double_pointer, entry_of, indirect_pointer, inode_of}
use Rattle.model.specs.Asked.{blocks_appended, pointers_put}
use Rattle.model.specs.Room.{content_blocks}

-- no block changes except those of the bitmap and these
abbrev pub SameBut : List ℕ → List Octets → List Octets → Type 0
SameBut others old new = (b : ℕ) → bitmap_blocks (length old) ≤ b → ¬ (Contains others b)
    → slice_index_or new b [] ≡ slice_index_or old b []

-- no block changes except those of the bitmap and at most this many others
pub record Touches (n : ℕ) (old new : List Octets) : Type 0 where
  pub count : length new ≡ length old
  pub others : List ℕ
  pub few : length others ≤ n
  pub same : SameBut others old new

-- the block that contains inode k of a volume with this many blocks
abbrev pub inode_block : ℕ → ℕ → ℕ
inode_block count k = bitmap_blocks count + k / 64

-- the block that contains the slot of inode k
abbrev pub slot_block : ℕ → ℕ → ℕ → ℕ
slot_block count inodes k = bitmap_blocks count + inodes / 64 + k / 64

-- the double-indirect block of inode k, or 0
abbrev pub double_of : List Octets → ℕ → ℕ
double_of blocks k = double_pointer (entry_of blocks (inode_of blocks k) [])

-- the p-th block of pointers of inode k, or 0
abbrev pub table_of : List Octets → ℕ → ℕ → ℕ
table_of blocks k p = indirect_pointer (entry_of blocks (inode_of blocks k) []) p

-- block b names none of the blocks of inode k's octets from place `from` on and before place `to`, neither as their
-- block of pointers nor as the double-indirect block
abbrev pub NamesNone : ℕ → ℕ → ℕ → List Octets → ℕ → Type 0
NamesNone k from to blocks b = (i : ℕ) → from ≤ i → i < to → (b ≢ double_of blocks k) × (b ≢ table_of blocks k ((i - 10) / 1024))

-- the number of a file's blocks that this many octets touch from a place on
abbrev pub blocks_reached : ℕ → ℕ → ℕ
blocks_reached place count = (place % 4096 + count + 4095) / 4096

-- the number of blocks that change when a file of this size grows by this many octets: those that the octets touch, its
-- inode's, and those that name the new blocks
abbrev pub touched_by_growth : ℕ → ℕ → ℕ
touched_by_growth size more = blocks_appended size more

-- the number of blocks that change when a file of this many octets gets a size that is not larger: its inode's, and
-- those that named the freed blocks
abbrev pub touched_by_cut : ℕ → ℕ → ℕ
touched_by_cut was size = 1 + pointers_put (content_blocks was - content_blocks size) was

-- the number of blocks that change when a file of this many octets gets a new size; a size that is not larger leaves
-- the blocks of its octets as they are
abbrev pub touched_by_truncation : ℕ → ℕ → ℕ
touched_by_truncation was size = if nat_lt was size then touched_by_growth was (size - was) else touched_by_cut was size

-- the most blocks that change when this many octets are written at a place of a file of this size: those that the
-- octets touch (one may be counted twice), its inode's, and those that name the new blocks
abbrev pub touched_by_write : ℕ → ℕ → ℕ → ℕ
touched_by_write size place count =
    2 + blocks_reached place count + pointers_put (content_blocks (place + count) - content_blocks size) (place + count)

-- no block changes except the bitmap, the inode's, and those that named these blocks of its octets; each block that
-- names blocks stays or is freed
pub record TouchesInode (k from to : ℕ) (old new : List Octets) : Type 0 where
  pub count : length new ≡ length old
  pub same : (b : ℕ) → bitmap_blocks (length old) ≤ b → b ≢ inode_block (length old) k → NamesNone k from to old b
      → slice_index_or new b [] ≡ slice_index_or old b []
  pub double : (double_of new k ≡ double_of old k) ⊎ (double_of new k ≡ 0)
  pub tables : (p : ℕ) → (table_of new k p ≡ table_of old k p) ⊎ (table_of new k p ≡ 0)

-- no block changes except the bitmap, the inode's, these of its octets, and those that name the new ones; each block
-- that names blocks stays or is new
pub record TouchesData (k : ℕ) (blocks : List ℕ) (from to : ℕ) (old new : List Octets) : Type 0 where
  pub count : length new ≡ length old
  pub same : (b : ℕ) → bitmap_blocks (length old) ≤ b → b ≢ inode_block (length old) k → NamesNone k from to new b → ¬ (Contains blocks b)
      → slice_index_or new b [] ≡ slice_index_or old b []
  pub double : (double_of old k ≡ 0) ⊎ (double_of new k ≡ double_of old k)
  pub tables : (p : ℕ) → (table_of old k p ≡ 0) ⊎ (table_of new k p ≡ table_of old k p)
