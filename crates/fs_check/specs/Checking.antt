-- What the passes of the check decide.
use Rattle.std.specs.Prelude.{◌≡◌, ◌⊎◌, ◌<◌, ◌≤◌, ◌↔◌, ◌==◌, if◌then◌else◌, ℕ, false, drop, List, length, slice_index_or, Contains, IsTrue}
use Rattle.byteorder.specs.Endian.{big_number}
use Rattle.model.specs.Stream.{Octets}
use Rattle.model.specs.Volume.{number_at, AreDistinct}
use Rattle.model.specs.Files.{FileEntry, IsFile, IsFree, size, block_count, double_pointer, indirect_count, indirect_pointer, pointer}
use Rattle.model.specs.Files.{owned}
use Rattle.model.specs.Files.{name_in, slot_octets, entry, slot_of, first_data}
use Rattle.fs_layout.specs.Bits.{bit_of}

-- a slot with a name
pub record IsSlot (slot : Octets) : Type 0 where
  pub name_some : 1 ≤ length (name_in slot)
  pub name_few : length (name_in slot) ≤ 63
  pub slot_is : slot ≡ slot_octets (name_in slot)

-- the number at a place: that of a block within the data if the place is one of the first `many`, or else 0
abbrev pub HasNumber : ℕ → ℕ → ℕ → ℕ → ℕ → Type 0
HasNumber first count place many number = ((place < many) × (first ≤ number) × (number < count)) ⊎ ((many ≤ place) × (number ≡ 0))

-- exactly this many blocks of pointers, all within the data
abbrev pub HasTables : ℕ → ℕ → ℕ → FileEntry → Type 0
HasTables first count tables e = (p : ℕ) → HasNumber first count p tables (indirect_pointer e p)

-- the inode and the pointers of a file of at most `most` octets
pub record HasPointers (most first count : ℕ) (e : FileEntry) : Type 0 where
  pub small : size e ≤ most
  pub spare : number_at 60 4 e.inode ≡ 0
  pub double : HasNumber first count 1 (indirect_count e) (double_pointer e)
  pub tables : HasTables first count (indirect_count e) e
  pub no_other_pointer : (i : ℕ) → block_count e ≤ i → pointer e i ≡ 0

-- the pointers of a file can be read
pub record CanRead (first count : ℕ) (e : FileEntry) : Type 0 where
  pub double : HasNumber first count 1 (indirect_count e) (double_pointer e)
  pub tables : HasTables first count (indirect_count e) e

-- a free entry, or that of a file whose pointers can be read
abbrev pub IsEntry : ℕ → ℕ → FileEntry → Type 0
IsEntry first count e = IsFree e ⊎ (IsFile e × CanRead first count e)

abbrev pub HasEntry : ℕ → List Octets → ℕ → Type 0
HasEntry inodes blocks k = IsEntry (first_data (length blocks) inodes) (length blocks) (entry inodes blocks k)

-- such an entry, of a file of at most `most` octets if it is not free
abbrev pub HasSmallEntry : ℕ → ℕ → List Octets → ℕ → Type 0
HasSmallEntry most inodes blocks k = HasEntry inodes blocks k × (size (entry inodes blocks k) ≤ most)

-- ---- owners

-- blocks that exist, are not marked, and occur once
pub record CanMark (count : ℕ) (numbers : List ℕ) (old : Octets) : Type 0 where
  pub distinct : AreDistinct numbers
  pub within : (b : ℕ) → Contains numbers b → b < count
  pub clear : (b : ℕ) → Contains numbers b → bit_of old b ≡ false

-- these blocks become marked
pub record Marks (count : ℕ) (numbers : List ℕ) (old new : Octets) : Type 0 where
  pub can : CanMark count numbers old
  pub marked : (b : ℕ) → IsTrue (bit_of new b) ↔ (IsTrue (bit_of old b) ⊎ Contains numbers b)

-- what the rule of blocks says of the owners, for the first entries
pub record HasOwners (at inodes : ℕ) (blocks : List Octets) : Type 0 where
  pub within : (k b : ℕ) → k < at → Contains (owned (entry inodes blocks k)) b
      → (first_data (length blocks) inodes ≤ b) × (b < length blocks)
  pub distinct : (k : ℕ) → k < at → AreDistinct (owned (entry inodes blocks k))
  pub one_owner : (k l b : ℕ) → k < at → l < at → Contains (owned (entry inodes blocks k)) b → Contains (owned (entry inodes blocks l)) b
      → k ≡ l

-- a block before the data, or one that one of the first entries owns
abbrev pub IsUsedBelow : ℕ → ℕ → List Octets → ℕ → Type 0
IsUsedBelow at inodes blocks b = (b < first_data (length blocks) inodes) ⊎ ((k : ℕ) × (k < at) × Contains (owned (entry inodes blocks k)) b)

-- these bits are those of the blocks in use
abbrev pub MarksUsed : ℕ → ℕ → List Octets → Octets → Type 0
MarksUsed at inodes blocks marks = (b : ℕ) → IsTrue (bit_of marks b) ↔ IsUsedBelow at inodes blocks b

-- ---- names

-- what the rule of blocks says of the names, for the first entries
abbrev pub HasDistinctNames : ℕ → ℕ → List Octets → Type 0
HasDistinctNames at inodes blocks =
    (k l : ℕ) → k < at → l < at → IsFile (entry inodes blocks k) → IsFile (entry inodes blocks l)
    → name_in (slot_of inodes blocks k) ≡ name_in (slot_of inodes blocks l) → k ≡ l

-- the number of the last eight digits of an article's name, which begins with 'a' (97), and 0 for a slot with another name
unfoldable pub rank : Octets → ℕ
rank slot = if slice_index_or slot 1 0 == 97 then big_number 8 (drop 5 slot) else 0
