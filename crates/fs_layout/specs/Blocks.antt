-- What a write of part of a block leaves.
use Rattle.std.specs.Prelude.{◌≡◌, ◌≢◌, ◌<◌, ℕ, ◌+◌, ◌*◌, ◌/◌, ◌%◌, List, [], length, slice_index_or}
use Rattle.std.specs.List.{All}
use Rattle.disk.specs.Image.{part}
use Rattle.model.specs.Stream.{Octets}
use Rattle.model.specs.Files.{slot_of}

-- record k of those that begin at block `first`
abbrev pub record_at : ℕ → List Octets → ℕ → Octets
record_at first blocks k = part (k % 64 * 64) 64 (slice_index_or blocks (first + k / 64) [])

-- one record is put, and nothing else changes
pub record PutsRecord (first at : ℕ) (octets : Octets) (old new : List Octets) : Type 0 where
  pub count : length new ≡ length old
  pub whole : All (λ b. length b ≡ 4096) old → All (λ b. length b ≡ 4096) new
  pub here : record_at first new at ≡ octets
  pub other : (k : ℕ) → k ≢ at → record_at first new k ≡ record_at first old k
  pub blocks : (n : ℕ) → n ≢ first + at / 64 → slice_index_or new n [] ≡ slice_index_or old n []

-- this number is that of a block, and is not 0
abbrev pub IsThere : ℕ → List Octets → Type 0
IsThere n blocks = (n ≢ 0) × (n < length blocks)

-- the first record with these octets
pub record IsFoundIn (block octets : Octets) (k : ℕ) : Type 0 where
  pub below : k < 64
  pub is : part (k * 64) 64 block ≡ octets
  pub lowest : (j : ℕ) → j < k → part (j * 64) 64 block ≢ octets

pub record IsFound (inodes : ℕ) (blocks : List Octets) (octets : Octets) (k : ℕ) : Type 0 where
  pub below : k < inodes
  pub is : slot_of inodes blocks k ≡ octets
  pub lowest : (j : ℕ) → j < k → slot_of inodes blocks j ≢ octets
