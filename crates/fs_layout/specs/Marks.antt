-- The marks of the bitmap.
use Rattle.std.specs.Prelude.{◌≡◌, ◌≢◌, ◌<◌, ◌≤◌, ℕ, Bool, true, false, List, [], length, slice_index_or}
use Rattle.std.specs.List.{All}
use Rattle.model.specs.Stream.{Octets}
use Rattle.model.specs.Files.{bitmap_bits, bitmap_blocks, is_marked_used}
use Rattle.fs_layout.specs.Bits.{bit_of}

-- the lowest clear bit among the first `count`
pub record IsLowestClear (octets : Octets) (count bit : ℕ) : Type 0 where
  pub below : bit < count
  pub clear : bit_of octets bit ≡ false
  pub lower : (b : ℕ) → b < bit → bit_of octets b ≡ true

-- the lowest block without a mark
pub record IsLowestFree (blocks : List Octets) (block : ℕ) : Type 0 where
  pub below : block < length blocks
  pub free : is_marked_used blocks block ≡ false
  pub lower : (b : ℕ) → b < block → is_marked_used blocks b ≡ true

-- no block below this number is free
abbrev pub NoneFreeBelow : ℕ → List Octets → Type 0
NoneFreeBelow n blocks = (b : ℕ) → b < n → b < length blocks → is_marked_used blocks b ≡ true

-- every block has a mark
abbrev pub HasNoFreeBlock : List Octets → Type 0
HasNoFreeBlock blocks = (b : ℕ) → b < length blocks → is_marked_used blocks b ≡ true

-- the mark of this block gets that value, and nothing else changes
pub record SetsMark (block : ℕ) (value : Bool) (old new : List Octets) : Type 0 where
  pub count : length new ≡ length old
  pub whole : All (λ b. length b ≡ 4096) old → All (λ b. length b ≡ 4096) new
  pub here : is_marked_used new block ≡ value
  pub other : (b : ℕ) → b < bitmap_bits (length old) → b ≢ block → is_marked_used new b ≡ is_marked_used old b
  pub blocks : (n : ℕ) → bitmap_blocks (length old) ≤ n → slice_index_or new n [] ≡ slice_index_or old n []

-- the lowest free block is marked
pub record TakesBlock (block : ℕ) (old new : List Octets) : Type 0 where
  pub lowest : IsLowestFree old block
  pub sets : SetsMark block true old new
