-- Blocks in memory that changes are written into, with what they were before.
use Rattle.std.specs.Prelude.{◌≡◌, ◌≢◌, ℕ, ◌*◌, ◌/◌, List, [], length, slice_index_or}
use Rattle.std.specs.List.{All, Contains}
use Rattle.journal_volume.specs.Chunks.{ChunksView, HasOctets}
use Rattle.journal_volume.specs.Numbers.{Numbers, IsNumbers}
use Rattle.journal_volume.specs.Parts.{parts_in, put_back}

-- the blocks without the stage, those that reads see, and the numbers of the dirty ones
pub record VolumeView : Type 0 where
  pub cache : List (List ℕ)
  pub seen : List (List ℕ)
  pub dirty : List ℕ

-- the two have different octets in block k
abbrev pub Differs : List (List ℕ) → List (List ℕ) → ℕ → Type 0
Differs before after k = slice_index_or before k [] ≢ slice_index_or after k []

-- the blocks are those of the cache, except the blocks with these numbers
pub record AgreeOutside (numbers : List ℕ) (blocks cache : List (List ℕ)) : Type 0 where
  pub count : length blocks ≡ length cache
  pub same : (k : ℕ) → ¬ (Contains numbers k) → slice_index_or blocks k [] ≡ slice_index_or cache k []

-- what a batch has: the numbers of its blocks, and their octets in that order, laid end to end
pub record BatchView : Type 0 where
  pub numbers : List ℕ
  pub images : List ℕ

-- ---- inside

-- the blocks before these parts changed, which had these octets
abbrev pub before : List (List ℕ) → List ℕ → List ℕ → List (List ℕ)
before blocks numbers octets = put_back blocks numbers (parts_in (length numbers) octets)

-- no path back takes memory, since the block of each kept part has octets
pub record IsVolume (blocks : ChunksView) (octets : List ℕ) (kept dirty : Numbers) : Type 0 where
  pub count : kept.bound ≡ 16 * length blocks.blocks
  pub whole : All (λ octets. length octets ≡ 4096) blocks.blocks
  pub room : All (λ p. HasOctets blocks.made (p / 16)) kept.members
  pub octets_size : length octets ≡ 256 * length kept.members
  pub kept_numbers : IsNumbers kept
  pub same_bound : dirty.bound ≡ length blocks.blocks
  pub dirty_numbers : IsNumbers dirty
