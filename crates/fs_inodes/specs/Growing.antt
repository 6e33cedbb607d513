-- Files that grow.
use Rattle.std.specs.Prelude.{◌≡◌, ◌≢◌, ◌⊎◌, ◌<◌, ◌≤◌, ℕ, ◌+◌, ◌-◌, ◌/◌, true, false, nat_lt, if◌then◌else◌, Some, List, [], ◌∷◌}
use Rattle.std.specs.Prelude.{◌++◌, map, replicate, length, take, slice_index_or, slice_set}
use Rattle.std.specs.List.{All, Contains, range_with_len}
use Rattle.disk.specs.Image.{overwritten}
use Rattle.model.specs.Stream.{Octets}
use Rattle.model.specs.Volume.{number_at, AreDistinct}
use Rattle.model.specs.Files.{FileEntry, double_blocks, double_pointer, entry_of, indirect_for, indirect_pointer, pointer, table}
use Rattle.model.specs.Files.{bitmap_bits, bitmap_blocks}
use Rattle.model.specs.Files.{is_marked_used, free_blocks, largest_file, most_octets}
pub use Rattle.model.specs.Room.{blocks_for}
use Rattle.fs_layout.specs.Table.{IsFileAt, Makes}

-- ---- room

-- a file that grows from the first size to the second would be too large for the format, or need more blocks than are
-- free
abbrev pub HasNoRoomFor : ℕ → List Octets → ℕ → ℕ → Type 0
HasNoRoomFor format blocks was size = (most_octets format < size) ⊎ (free_blocks blocks + blocks_for was < blocks_for size)

-- a file of the first size can have the second
abbrev pub HasRoomFor : List Octets → ℕ → ℕ → Type 0
HasRoomFor blocks was size = (size ≤ largest_file) × (blocks_for size ≤ free_blocks blocks + blocks_for was)

-- ---- one more block

-- what an inode says of its blocks
abbrev pub inode_entry : List Octets → Octets → FileEntry
inode_entry blocks inode = entry_of blocks inode []

-- the p-th block of pointers is neither another one nor the double-indirect block
pub record IsApart (p : ℕ) (e : FileEntry) : Type 0 where
  pub double : double_pointer e ≢ indirect_pointer e p
  pub others : (q : ℕ) → q ≢ p → indirect_pointer e q ≢ indirect_pointer e p

-- the i-th pointer of an inode becomes this number, in the inode or in a block of pointers, and nothing else changes
pub record PutsPointer (i number : ℕ) (inode inode' : Octets) (old new : List Octets) : Type 0 where
  pub count : length new ≡ length old
  pub whole : All (λ b. length b ≡ 4096) old → All (λ b. length b ≡ 4096) new
  pub size : length inode' ≡ length inode
  pub here : pointer (inode_entry new inode') i ≡ number
  pub other : (j : ℕ) → j ≢ i → pointer (inode_entry new inode') j ≡ pointer (inode_entry old inode) j
  pub indirect : (p : ℕ) → indirect_pointer (inode_entry new inode') p ≡ indirect_pointer (inode_entry old inode) p
  pub head : (a w : ℕ) → a + w ≤ 12 → number_at a w inode' ≡ number_at a w inode
  pub tail : (a w : ℕ) → 52 ≤ a → number_at a w inode' ≡ number_at a w inode
  pub marks : (b : ℕ) → b < bitmap_blocks (length old) → slice_index_or new b [] ≡ slice_index_or old b []
  pub blocks : (b : ℕ) → b ≢ indirect_pointer (inode_entry old inode) ((i - 10) / 1024) → slice_index_or new b [] ≡ slice_index_or old b []

-- the number of an inode's p-th block of pointers becomes this one, in the inode or in the double-indirect block, and
-- nothing else changes
pub record PutsIndirect (p number : ℕ) (inode inode' : Octets) (old new : List Octets) : Type 0 where
  pub count : length new ≡ length old
  pub whole : All (λ b. length b ≡ 4096) old → All (λ b. length b ≡ 4096) new
  pub size : length inode' ≡ length inode
  pub here : indirect_pointer (inode_entry new inode') p ≡ number
  pub other : (q : ℕ) → q ≢ p → indirect_pointer (inode_entry new inode') q ≡ indirect_pointer (inode_entry old inode) q
  pub octets : (q : ℕ) → q ≢ p → (inode_entry new inode').pointers q ≡ (inode_entry old inode).pointers q
  pub head : (a w : ℕ) → a + w ≤ 52 → number_at a w inode' ≡ number_at a w inode
  pub tail : (a w : ℕ) → 56 ≤ a → number_at a w inode' ≡ number_at a w inode
  pub marks : (b : ℕ) → b < bitmap_blocks (length old) → slice_index_or new b [] ≡ slice_index_or old b []
  pub blocks : (b : ℕ) → b ≢ double_pointer (inode_entry old inode) → slice_index_or new b [] ≡ slice_index_or old b []

-- the number of blocks that name blocks in a file with this many blocks of pointers
abbrev pub with_double : ℕ → ℕ
with_double tables = tables + (if nat_lt 1 tables then 1 else 0)

-- the number of blocks of a file whose octets take this many
abbrev pub with_indirect : ℕ → ℕ
with_indirect count = count + with_double (indirect_for count)

-- a marked block after those of the bitmap
pub record IsTaken (blocks : List Octets) (b : ℕ) : Type 0 where
  pub some : bitmap_blocks (length blocks) ≤ b
  pub there : b < length blocks
  pub marked : is_marked_used blocks b ≡ true

-- an inode names exactly this many blocks of pointers: they are taken, no two are the same, and none is the
-- double-indirect block, which the inode names exactly if there is more than one of them
pub record NamesBlocks (tables : ℕ) (e : FileEntry) (blocks : List Octets) : Type 0 where
  pub there : (p : ℕ) → p < tables → IsTaken blocks (indirect_pointer e p)
  pub none : (p : ℕ) → tables ≤ p → indirect_pointer e p ≡ 0
  pub differ : (p q : ℕ) → p < tables → q < tables → indirect_pointer e p ≡ indirect_pointer e q → p ≡ q
  pub double : 1 < tables → IsTaken blocks (double_pointer e)
  pub no_double : tables ≤ 1 → double_pointer e ≡ 0
  pub apart : (p : ℕ) → p < tables → indirect_pointer e p ≢ double_pointer e

-- the first `tables` blocks of pointers
abbrev pub tables_to : FileEntry → ℕ → List ℕ
tables_to e tables = map (λ p. indirect_pointer e p) (range_with_len 0 tables)

-- each block that is taken is below each that stays free
abbrev pub TakesLowest : List Octets → List Octets → Type 0
TakesLowest old new =
    (b c : ℕ) → b < length new → c < length new → is_marked_used old b ≡ false → is_marked_used new b ≡ true → is_marked_used new c ≡ false
    → b < c

-- these free blocks, the lowest ones, are marked, and no other mark changes
pub record TakesBlocks (fresh : List ℕ) (old new : List Octets) : Type 0 where
  pub free : (b : ℕ) → Contains fresh b → (b < length old) × (is_marked_used old b ≡ false)
  pub marked : (b : ℕ) → Contains fresh b → is_marked_used new b ≡ true
  pub other : (b : ℕ) → b < bitmap_bits (length old) → ¬ (Contains fresh b) → is_marked_used new b ≡ is_marked_used old b
  pub lowest : TakesLowest old new
  pub distinct : AreDistinct fresh
  pub fewer : free_blocks new + length fresh ≡ free_blocks old

-- a free block is taken, and gets zeros
pub record TakesZeros (number : ℕ) (old new : List Octets) : Type 0 where
  pub count : length new ≡ length old
  pub whole : All (λ b. length b ≡ 4096) old → All (λ b. length b ≡ 4096) new
  pub takes : TakesBlocks (number ∷ []) old new
  pub zeros : slice_index_or new number [] ≡ replicate 4096 0
  pub blocks : (b : ℕ) → bitmap_blocks (length old) ≤ b → b ≢ number → slice_index_or new b [] ≡ slice_index_or old b []

-- before an inode gets its p-th block of pointers, it gets its double-indirect block if the p-th is the first to need
-- that
pub record AddsDouble (p : ℕ) (inode inode' : Octets) (old new : List Octets) : Type 0 where
  pub count : length new ≡ length old
  pub whole : All (λ b. length b ≡ 4096) old → All (λ b. length b ≡ 4096) new
  pub size : length inode' ≡ length inode
  pub same : (q : ℕ) → indirect_pointer (inode_entry new inode') q ≡ indirect_pointer (inode_entry old inode) q
  pub octets : (q : ℕ) → (inode_entry new inode').pointers q ≡ (inode_entry old inode).pointers q
  pub head : (a w : ℕ) → a + w ≤ 56 → number_at a w inode' ≡ number_at a w inode
  pub tail : (a w : ℕ) → 60 ≤ a → number_at a w inode' ≡ number_at a w inode
  pub doubles : List ℕ
  pub double : ((p ≢ 1) × (doubles ≡ []) × (number_at 56 4 inode' ≡ number_at 56 4 inode))
      ⊎ ((p ≡ 1) × (doubles ≡ number_at 56 4 inode' ∷ []) × IsTaken new (number_at 56 4 inode'))
  pub takes : TakesBlocks doubles old new
  pub blocks : (b : ℕ) → bitmap_blocks (length old) ≤ b → b ≢ number_at 56 4 inode' → slice_index_or new b [] ≡ slice_index_or old b []

-- an inode gets the blocks of pointers that its i-th block is the first to need, or none
pub record AddsTable (i : ℕ) (inode inode' : Octets) (old new : List Octets) : Type 0 where
  pub count : length new ≡ length old
  pub whole : All (λ b. length b ≡ 4096) old → All (λ b. length b ≡ 4096) new
  pub size : length inode' ≡ length inode
  pub same : (j : ℕ) → pointer (inode_entry new inode') j ≡ pointer (inode_entry old inode) j
  pub head : (a w : ℕ) → a + w ≤ 52 → number_at a w inode' ≡ number_at a w inode
  pub tail : (a w : ℕ) → 60 ≤ a → number_at a w inode' ≡ number_at a w inode
  pub names : NamesBlocks (indirect_for (i + 1)) (inode_entry new inode') new
  pub double_stays : (double_pointer (inode_entry old inode) ≡ 0)
      ⊎ (double_pointer (inode_entry new inode') ≡ double_pointer (inode_entry old inode))
  pub tables_stay : (p : ℕ) → (indirect_pointer (inode_entry old inode) p ≡ 0)
      ⊎ (indirect_pointer (inode_entry new inode') p ≡ indirect_pointer (inode_entry old inode) p)
  pub doubles : List ℕ
  pub doubles_are : double_blocks (inode_entry new inode') ≡ double_blocks (inode_entry old inode) ++ doubles
  pub tables : List ℕ
  pub tables_are : tables_to (inode_entry new inode') (indirect_for (i + 1)) ≡ tables_to (inode_entry old inode) (indirect_for i) ++ tables
  pub takes : TakesBlocks (doubles ++ tables) old new
  pub fewer : free_blocks new + with_double (indirect_for (i + 1)) ≡ free_blocks old + with_double (indirect_for i)
  pub blocks : (b : ℕ) → bitmap_blocks (length old) ≤ b → b ≢ double_pointer (inode_entry new inode')
      → b ≢ indirect_pointer (inode_entry new inode') ((i - 10) / 1024)
      → slice_index_or new b [] ≡ slice_index_or old b []

-- a file gets its i-th block, and the blocks of pointers that the i-th is the first to need
pub record AddsBlock (i number : ℕ) (inode inode' : Octets) (old new : List Octets) : Type 0 where
  pub count : length new ≡ length old
  pub whole : All (λ b. length b ≡ 4096) old → All (λ b. length b ≡ 4096) new
  pub size : length inode' ≡ length inode
  pub here : pointer (inode_entry new inode') i ≡ number
  pub other : (j : ℕ) → j ≢ i → pointer (inode_entry new inode') j ≡ pointer (inode_entry old inode) j
  pub head : (a w : ℕ) → a + w ≤ 12 → number_at a w inode' ≡ number_at a w inode
  pub tail : (a w : ℕ) → 60 ≤ a → number_at a w inode' ≡ number_at a w inode
  pub names : NamesBlocks (indirect_for (i + 1)) (inode_entry new inode') new
  pub double_stays : (double_pointer (inode_entry old inode) ≡ 0)
      ⊎ (double_pointer (inode_entry new inode') ≡ double_pointer (inode_entry old inode))
  pub tables_stay : (p : ℕ) → (indirect_pointer (inode_entry old inode) p ≡ 0)
      ⊎ (indirect_pointer (inode_entry new inode') p ≡ indirect_pointer (inode_entry old inode) p)
  pub doubles : List ℕ
  pub doubles_are : double_blocks (inode_entry new inode') ≡ double_blocks (inode_entry old inode) ++ doubles
  pub tables : List ℕ
  pub tables_are : tables_to (inode_entry new inode') (indirect_for (i + 1)) ≡ tables_to (inode_entry old inode) (indirect_for i) ++ tables
  pub takes : TakesBlocks (doubles ++ (tables ++ number ∷ [])) old new
  pub fewer : free_blocks new + with_indirect (i + 1) ≡ free_blocks old + with_indirect i
  pub blocks : (b : ℕ) → bitmap_blocks (length old) ≤ b → b ≢ double_pointer (inode_entry new inode')
      → b ≢ indirect_pointer (inode_entry new inode') ((i - 10) / 1024)
      → slice_index_or new b [] ≡ slice_index_or old b []

-- ---- the file grows

-- a piece is put into this block from a place on, and what was before that place stays
pub record PutsPiece (number within : ℕ) (piece : Octets) (old new : List Octets) : Type 0 where
  pub block : Octets
  pub whole : length block ≡ 4096
  pub front : take within block ≡ take within (slice_index_or old number [])
  pub puts : new ≡ slice_set old number (overwritten within piece block)

-- no block is freed
abbrev pub KeepsMarks : List Octets → List Octets → Type 0
KeepsMarks old new = (b : ℕ) → b < bitmap_bits (length old) → is_marked_used old b ≡ true → is_marked_used new b ≡ true

-- these octets are appended to the file of inode k, and no other file changes
pub record GrowsBy (inodes k : ℕ) (octets : Octets) (old new : List Octets) : Type 0 where
  pub count : length new ≡ length old
  pub name : Octets
  pub was : Octets
  pub there : IsFileAt (table inodes old) k name was
  pub makes : Makes inodes (slice_set (table inodes old) k (Some (record { name = name; content = was ++ octets }))) new
  pub lowest : TakesLowest old new
  pub kept : KeepsMarks old new
  pub free : free_blocks new + blocks_for (length was + length octets) ≡ free_blocks old + blocks_for (length was)

-- these octets are appended to the file of this name
abbrev pub Appends : ℕ → Octets → Octets → List Octets → List Octets → Type 0
Appends inodes name octets old new =
    (k : ℕ) × (content : Octets) × IsFileAt (table inodes old) k name content × GrowsBy inodes k octets old new

-- the file of this name cannot grow by this many octets in a volume of this format
abbrev pub CannotGrow : ℕ → ℕ → Octets → ℕ → List Octets → Type 0
CannotGrow format inodes name more blocks =
    (k : ℕ) × (content : Octets) × IsFileAt (table inodes blocks) k name content
    × HasNoRoomFor format blocks (length content) (length content + more)
