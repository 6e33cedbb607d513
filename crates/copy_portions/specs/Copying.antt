-- A copy of a volume's blocks that is made while batches change them.
use Rattle.std.specs.Prelude.{◌≡◌, ◌<◌, ℕ, Bool, true, false, List, [], ◌∷◌, length, map, replicate, slice_index_or, slice_set}
use Rattle.std.specs.List.{All}
use Rattle.model.specs.Volume.{laid_over}

-- what a portion carries: the numbers of its blocks, and their octets in that order, laid end to end
pub record PortionView : Type 0 where
  pub numbers : List ℕ
  pub images : List ℕ

-- whether the copy lacks a block, by flags for all of them
abbrev pub is_lacked : List Bool → ℕ → Bool
is_lacked flags k = slice_index_or flags k false

abbrev pub LacksNone : List Bool → Type 0
LacksNone flags = (k : ℕ) → is_lacked flags k ≡ false

-- the flags with those of these blocks set
abbrev pub flagged : Bool → List Bool → List ℕ → List Bool
flagged value flags [] = flags
flagged value flags (n ∷ numbers) = flagged value (slice_set flags n value) numbers

-- the blocks of the volume, those of the copy, and which of them the copy lacks
pub record Copying : Type 0 where
  pub blocks : List (List ℕ)
  pub copy : List (List ℕ)
  pub flags : List Bool

-- what happens meanwhile: a batch changes blocks of the volume, which the copy then lacks; or the copy gets these blocks as they are
pub data Step : Type 0 where
  Batch : (numbers : List ℕ) (images : List (List ℕ)) → Step
  Portion : (numbers : List ℕ) → Step

abbrev pub after : Copying → Step → Copying
after c (Batch numbers images) = record c { blocks = laid_over c.blocks numbers images; flags = flagged true c.flags numbers }
after c (Portion numbers) = record c {
  copy = laid_over c.copy numbers (map (λ n. slice_index_or c.blocks n []) numbers);
  flags = flagged false c.flags numbers;
}

abbrev pub after_all : Copying → List Step → Copying
after_all c [] = c
after_all c (step ∷ steps) = after_all (after c step) steps

-- a batch has an image for each number, and the copy gets blocks that the volume has
abbrev pub Fits : ℕ → Step → Type 0
Fits size (Batch numbers images) = length images ≡ length numbers
Fits size (Portion numbers) = All (λ n. n < size) numbers

-- the copy has as many blocks as the volume, and it is alike in each block that it doesn't lack
pub record IsCopyBut (c : Copying) : Type 0 where
  pub count : length c.copy ≡ length c.blocks
  pub all_flagged : length c.flags ≡ length c.blocks
  pub alike : (k : ℕ) → is_lacked c.flags k ≡ false → slice_index_or c.copy k [] ≡ slice_index_or c.blocks k []

-- A copy begins with any octets and lacks all. Once it lacks none, it is alike.
abbrev pub EndsAlike : Type 0
EndsAlike = (blocks copy : List (List ℕ)) (steps : List Step) → length copy ≡ length blocks → All (Fits (length blocks)) steps
    → let ended = after_all (record { blocks = blocks; copy = copy; flags = replicate (length blocks) true }) steps in
    LacksNone ended.flags → ended.copy ≡ ended.blocks
