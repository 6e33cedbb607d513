-- Blocks in pieces of 256. A piece without octets has blocks of zeros.
use Rattle.std.specs.Prelude.{◌≡◌, ◌<◌, ◌≤◌, ℕ, ◌*◌, ◌/◌, ◌%◌, Bool, false, nat_lt, IsTrue, List, [], ◌∷◌, length, map, replicate}
use Rattle.std.specs.Prelude.{slice_index_or, Vec}
use Rattle.std.specs.declared.alloc.Global.{Global}
use Rattle.std.specs.List.{range_with_len}
use Rattle.model.specs.Volume.{block}

-- the blocks, and for each piece whether it has octets
pub record PiecesView : Type 0 where
  pub blocks : List (List ℕ)
  pub made : List Bool

-- the piece of block n has octets
abbrev pub IsMade : List Bool → ℕ → Type 0
IsMade made n = IsTrue (slice_index_or made (n / 256) false)

-- a block of zeros
unfoldable pub zero_block : List ℕ
zero_block = replicate 4096 0

-- ---- inside

-- block k of a piece
abbrev pub block_in : List ℕ → ℕ → List ℕ
block_in [] k = zero_block
block_in (octet ∷ octets) k = block k (octet ∷ octets)

-- block n of these pieces
abbrev pub block_at : List (List ℕ) → ℕ → List ℕ
block_at pieces n = block_in (slice_index_or pieces (n / 256) []) (n % 256)

-- the first blocks of these pieces
abbrev pub view_of : ℕ → List (List ℕ) → PiecesView
view_of count pieces = record {
  blocks = map (λ n. block_at pieces n) (range_with_len 0 count);
  made = map (λ piece. nat_lt 0 (length piece)) pieces;
}

-- the octets of each piece
abbrev pub octets_of : List (Vec ℕ Global) → List (List ℕ)
octets_of pieces = map (λ piece. piece.items) pieces

-- enough pieces for the blocks, each with octets for 256 blocks or with none
pub record ArePieces (count : ℕ) (pieces : List (List ℕ)) : Type 0 where
  pub enough : count ≤ 256 * length pieces
  pub whole : (i : ℕ) → 0 < length (slice_index_or pieces i []) → length (slice_index_or pieces i []) ≡ 1048576
