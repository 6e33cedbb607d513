-- Worked examples of the formats: the octets of the gates, the blocks that files own, and pointers.
use Rattle.std.specs.Prelude.{◌≡◌, ◌-◌, ◌+◌, ◌==◌, if◌then◌else◌, [], ◌∷◌, ◌++◌, replicate}
use Rattle.model.specs.Files.{FileEntry, first_data, indirect_pointer, pointer, largest_file, largest_file_one}
use Rattle.model.specs.Room.{blocks_for}
use Rattle.model.specs.Stream.{Octets}
use Rattle.model.specs.Volume.{format_in}

-- Octet 149 is the gate of format 3, and says so by 3 alone, whatever octet 148 is. If it is any other value, octet 148 decides: 2 is
-- format 2, every other value is format 1. A superblock has octets after them, which are no gates.
abbrev pub Gates : Type 0
Gates =
    (format_in (replicate 148 1 ++ 2 ∷ []) ≡ 2)
    × (format_in (replicate 148 2 ++ 0 ∷ []) ≡ 1)
    × (format_in (replicate 148 2 ++ 1 ∷ []) ≡ 1)
    × (format_in (replicate 148 2 ++ 77 ∷ []) ≡ 1)
    × (format_in (replicate 148 2 ++ 3 ∷ 2 ∷ 3 ∷ []) ≡ 1)
    × (format_in (replicate 148 3 ++ 2 ∷ 0 ∷ 3 ∷ []) ≡ 2)
    × (format_in (replicate 148 0 ++ 2 ∷ 77 ∷ []) ≡ 2)
    × (format_in (replicate 148 0 ++ 2 ∷ 3 ∷ []) ≡ 3)
    × (format_in (replicate 148 0 ++ 0 ∷ 3 ∷ []) ≡ 3)
    × (format_in (replicate 148 0 ++ 77 ∷ 3 ∷ []) ≡ 3)

-- with 4,096 blocks and 64 inodes, a file of the largest size of format 1 leaves 3,057 blocks free; with one more octet it leaves 3,054
abbrev pub Rows : Type 0
Rows =
    (4096 - (first_data 4096 64 + blocks_for largest_file_one) ≡ 3057)
    × (4096 - (first_data 4096 64 + blocks_for 4235265) ≡ 3054)

-- the blocks of pointers: none up to 10 blocks, one up to 1,034; a double-indirect block comes with the second
abbrev pub Steps : Type 0
Steps =
    (blocks_for 0 ≡ 0) × (blocks_for 1 ≡ 1) × (blocks_for 40960 ≡ 10) × (blocks_for 40961 ≡ 12)
    × (blocks_for 8429568 ≡ 2061) × (blocks_for 8429569 ≡ 2063) × (blocks_for largest_file ≡ 1049600)

-- a file of 1,035 blocks: its inode names the first block of pointers, 20, and the double-indirect block, 21. The latter names the
-- second block of pointers, 22, which names the last block of the file, 23
abbrev pub four : Octets
four = 0 ∷ 0 ∷ 0 ∷ []

abbrev pub last_of : FileEntry
last_of = record {
  inode = replicate 52 0 ++ 20 ∷ four ++ 21 ∷ four ++ replicate 4 0;
  slot = [];
  double = 22 ∷ four ++ replicate 4092 0;
  pointers = λ p. if p == 0 then replicate 4096 0 else (if p == 1 then 23 ∷ four ++ replicate 4092 0 else []);
}

abbrev pub Walks : Type 0
Walks = (indirect_pointer last_of 0 ≡ 20) × (indirect_pointer last_of 1 ≡ 22) × (indirect_pointer last_of 2 ≡ 0)
    × (pointer last_of 1034 ≡ 23) × (pointer last_of 1035 ≡ 0)
