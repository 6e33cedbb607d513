-- What is used of a volume.
use Rattle.std.specs.Prelude.{◌≡◌, ℕ, ◌+◌, ◌*◌, List, [], count_by, length, map, slice_index_or}
use Rattle.std.specs.List.{range_with_len, sum_by}
use Rattle.fs_layout.specs.Bits.{bit_of}
use Rattle.model.specs.Files.{HasRoom, IsFileSystem, bitmap_blocks, free_blocks}
use Rattle.model.specs.Stream.{Octets}

-- the number of bits that are set in these octets
abbrev pub used_in : Octets → ℕ
used_in octets = count_by (λ bit. bit_of octets bit) (range_with_len 0 (8 * length octets))

-- the sum of what each of the first numbers gives, this many
abbrev pub sum_of : (ℕ → ℕ) → ℕ → ℕ
sum_of f count = sum_by (λ n. n) (map f (range_with_len 0 count))

-- the number of bits that are set in the block with this number
abbrev pub marked : List Octets → ℕ → ℕ
marked blocks number = used_in (slice_index_or blocks number [])

-- the number of bits that are set in the bitmap of these blocks
abbrev pub all_marked : List Octets → ℕ
all_marked blocks = sum_of (marked blocks) (bitmap_blocks (length blocks))

-- In a file system as many bits of the bitmap are set as there are blocks that aren't free.
abbrev pub BitsAreUsedBlocks : Type 0
BitsAreUsedBlocks =
    (inodes : ℕ) (blocks : List Octets) → HasRoom inodes blocks → IsFileSystem inodes blocks
    → all_marked blocks + free_blocks blocks ≡ length blocks
