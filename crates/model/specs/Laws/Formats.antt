-- Format 1, defined on its own. Its file system is that of both formats, with no file of more than 4,235,264 octets.
use Rattle.std.specs.Prelude.{◌≡◌, ◌≢◌, ℕ, ◌+◌, ◌-◌, ◌*◌, ◌/◌, ◌<◌, ◌≤◌, ◌↔◌, ◌==◌, nat_lt, if◌then◌else◌, List, [], ◌∷◌, ◌++◌, map, take}
use Rattle.std.specs.Prelude.{flat_map, length, slice_index_or}
use Rattle.std.specs.List.{All, range_with_len}
use Rattle.model.specs.Stream.{Octets}
use Rattle.model.specs.Volume.{number_at}
use Rattle.model.specs.Files.{AreWithin, File, HasRoom, HoldsFiles, IsFile, content_of, entry_of, indirect_of, name_in, owned, size}
use Rattle.model.specs.Files.{slot_octets, largest_file_one}

-- an inode, its slot, and its indirect block
pub record EntryOne : Type 0 where
  pub inode : Octets
  pub slot : Octets
  pub indirect : Octets

abbrev pub size_one : EntryOne → ℕ
size_one e = number_at 4 8 e.inode

abbrev pub count_one : EntryOne → ℕ
count_one e = (size_one e + 4095) / 4096

abbrev pub indirect_one : EntryOne → ℕ
indirect_one e = number_at 52 4 e.inode

abbrev pub pointer_one : EntryOne → ℕ → ℕ
pointer_one e i = if nat_lt i 10 then number_at (12 + 4 * i) 4 e.inode else number_at (4 * (i - 10)) 4 e.indirect

abbrev pub owned_one : EntryOne → List ℕ
owned_one e = (if indirect_one e == 0 then [] else indirect_one e ∷ []) ++ map (λ i. pointer_one e i) (range_with_len 0 (count_one e))

abbrev pub content_one : List Octets → EntryOne → Octets
content_one blocks e = take (size_one e) (flat_map (λ i. slice_index_or blocks (pointer_one e i) []) (range_with_len 0 (count_one e)))

-- a file of format 1: the spare octets are zero
pub record IsFileOne (e : EntryOne) : Type 0 where
  pub kind_is : number_at 0 4 e.inode ≡ 1
  pub small : size_one e ≤ largest_file_one
  pub spare : number_at 56 8 e.inode ≡ 0
  pub indirect_where : (10 < count_one e) ↔ (indirect_one e ≢ 0)
  pub no_other_pointer : (i : ℕ) → count_one e ≤ i → i < 1034 → pointer_one e i ≡ 0
  pub name_some : 1 ≤ length (name_in e.slot)
  pub name_few : length (name_in e.slot) ≤ 63
  pub slot_is : e.slot ≡ slot_octets (name_in e.slot)

abbrev pub entry_one : List Octets → Octets → Octets → EntryOne
entry_one blocks inode slot = record { inode = inode; slot = slot; indirect = indirect_of blocks (number_at 52 4 inode) }

-- the same inodes are files
abbrev pub FilesOfFormatOne : Type 0
FilesOfFormatOne = (blocks : List Octets) (inode slot : Octets) →
    (IsFile (entry_of blocks inode slot) × (size (entry_of blocks inode slot) ≤ largest_file_one)) ↔ IsFileOne (entry_one blocks inode slot)

-- the files own the same blocks and have the same content
abbrev pub ReadAsFormatOne : Type 0
ReadAsFormatOne = (blocks : List Octets) (inode slot : Octets) → IsFileOne (entry_one blocks inode slot) →
    (owned (entry_of blocks inode slot) ≡ owned_one (entry_one blocks inode slot))
    × (content_of blocks (entry_of blocks inode slot) ≡ content_one blocks (entry_one blocks inode slot))

-- No inode says that its file has more than this many octets exactly if no file has more. So a check of the inodes says whether the
-- spool's files are of the format.
abbrev pub SizesBoundFiles : Type 0
SizesBoundFiles = (most inodes : ℕ) (blocks : List Octets) (files : List File) → HasRoom inodes blocks → HoldsFiles inodes blocks files →
    AreWithin most inodes blocks ↔ All (λ file. length file.content ≤ most) files
