-- What part of an image matters to what it stands for.
use Rattle.std.specs.Prelude.{◌≡◌, ◌<◌, ◌≤◌, ℕ, ◌+◌, List, ◌++◌, length, map, slice_index, true}
use Rattle.model.specs.Volume.{Batch, all_laid_over, batch_in, block, descriptor_place, gate_place, home, home_place, is_open}
use Rattle.model.specs.Volume.{open_segments, rising, segment_count}

-- the images differ only in some blocks
pub record SameBut (P : ℕ → Type 0) (old new : List ℕ) : Type 0 where
  pub size : length new ≡ length old
  pub same : (k : ℕ) → (P k → ⊥) → block k new ≡ block k old

-- a block is the descriptor of a segment, or one of its images
abbrev pub IsInside : ℕ → ℕ → Type 0
IsInside s k = (descriptor_place s ≤ k) × (k < gate_place (s + 1))

-- a segment exists and is open
abbrev pub IsOpenIn : ℕ → List ℕ → Type 0
IsOpenIn s image = (s < segment_count image) × (is_open s image ≡ true)

-- a block is the home of a logical block of which an open segment has an image
abbrev pub IsHomeOfOpen : List ℕ → ℕ → Type 0
IsHomeOfOpen image k =
    (s : ℕ) × IsOpenIn s image × ((i : ℕ) × (i < length (batch_in s image).numbers)
    × (k ≡ home_place (segment_count image) (slice_index (batch_in s image).numbers i)))

-- the batches of the open segments, in rising number
abbrev pub open_batches : List ℕ → List Batch
open_batches image = rising (map (λ s. batch_in s image) (open_segments image))

-- the home already has what the last of these batches hold, however many of the first are left out
abbrev pub IsCarried : List ℕ → Type 0
IsCarried image = (closed left : List Batch) → closed ++ left ≡ open_batches image → all_laid_over (home image) left ≡ home image
