-- Blocks, of which some have octets, each in a slot of its own. The others are zeros.
use Rattle.std.specs.Prelude.{◌≡◌, ◌<◌, ◌≤◌, ℕ, List, [], length, replicate, slice_index_or}
use Rattle.std.specs.List.{All, Contains}
use Rattle.model.specs.Volume.{laid_over}
use Rattle.journal_volume.specs.Numbers.{Numbers, IsNumbers}
use Rattle.journal_volume.specs.Pieces.{PiecesView, IsMade, zero_block}

-- the blocks, and the numbers of those that have octets
pub record ChunksView : Type 0 where
  pub blocks : List (List ℕ)
  pub made : List ℕ

-- block n has octets
abbrev pub HasOctets : List ℕ → ℕ → Type 0
HasOctets made n = Contains made n

-- ---- inside

-- blocks of zeros, with the slots in place of those that have octets
abbrev pub view_of : Numbers → PiecesView → ChunksView
view_of made slots = record {
  blocks = laid_over (replicate made.bound zero_block) made.members slots.blocks;
  made = made.members;
}

-- a slot for each block; those that were given have octets, and the others are zeros
pub record AreChunks (made : Numbers) (slots : PiecesView) : Type 0 where
  pub numbers : IsNumbers made
  pub size : length slots.blocks ≡ made.bound
  pub whole : All (λ octets. length octets ≡ 4096) slots.blocks
  pub room : (i : ℕ) → i < length made.members → IsMade slots.made i
  pub zeros : (i : ℕ) → length made.members ≤ i → i < made.bound → slice_index_or slots.blocks i [] ≡ zero_block
