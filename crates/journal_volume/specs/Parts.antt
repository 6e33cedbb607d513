-- Parts of blocks. Block n has the 16 parts of 256 octets whose numbers begin with 16 * n.
use Rattle.std.specs.Prelude.{◌≡◌, ◌<◌, ℕ, ◌+◌, ◌*◌, ◌/◌, ◌%◌, ◌^◌, Bool, false, IsTrue, List, [], ◌∷◌, length, map, slice_index}
use Rattle.std.specs.Prelude.{slice_index_or, slice_set}
use Rattle.std.specs.List.{Contains, range_with_len}
use Rattle.disk.specs.Image.{part, overwritten}
use Rattle.journal_volume.specs.Numbers.{Numbers, IsNumbers}

-- the octets of a part
abbrev pub part_of : List (List ℕ) → ℕ → List ℕ
part_of blocks p = part (256 * (p % 16)) 256 (slice_index_or blocks (p / 16) [])

-- the blocks with other octets in a part
abbrev pub with_part : List (List ℕ) → ℕ → List ℕ → List (List ℕ)
with_part blocks p octets =
    slice_set blocks (p / 16) (overwritten (256 * (p % 16)) octets (slice_index_or blocks (p / 16) []))

-- the blocks with other octets in these parts
abbrev pub put_back : List (List ℕ) → List ℕ → List (List ℕ) → List (List ℕ)
put_back blocks (p ∷ numbers) (octets ∷ parts) = put_back (with_part blocks p octets) numbers parts
put_back blocks numbers parts = blocks

-- this many parts, laid end to end
abbrev pub parts_in : ℕ → List ℕ → List (List ℕ)
parts_in count octets = map (λ i. part (256 * i) 256 octets) (range_with_len 0 count)

-- ---- inside

-- the block of the part is among these, and its flag is set
pub record IsFlagged (blocks : List ℕ) (flags : List Bool) (p : ℕ) : Type 0 where
  pub place : ℕ
  pub low : place < length blocks
  pub block : slice_index blocks place ≡ p / 16
  pub flag : IsTrue (slice_index_or flags (16 * place + p % 16) false)

-- each block of which a part is a member has 16 flags, which say of each of its parts whether it is one
pub record IsPartSet (blocks : Numbers) (flags : List Bool) (members : List ℕ) : Type 0 where
  pub few : blocks.bound < 2 ^ 32
  pub blocks_numbers : IsNumbers blocks
  pub size : length flags ≡ 16 * length blocks.members
  pub numbers : IsNumbers (record { bound = 16 * blocks.bound; members = members })
  pub forth : (p : ℕ) → Contains members p → IsFlagged blocks.members flags p
  pub back : (i j : ℕ) → i < length blocks.members → j < 16 → IsTrue (slice_index_or flags (16 * i + j) false)
      → Contains members (16 * slice_index blocks.members i + j)
