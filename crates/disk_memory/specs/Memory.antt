-- The octets of a device in memory: those of the last good sync, those that a read gives, and which were written since.
use Rattle.std.specs.Prelude.{◌≡◌, ◌<◌, ◌≤◌, ℕ, ◌+◌, ◌/◌, Bool, true, false, List, length, slice_index, slice_index_or}

-- What was not written since the last good sync is the same in both. A block of 4,096 octets is marked if some of them
-- were written.
pub record IsSound (synced present : List ℕ) (touched marked : List Bool) : Type 0 where
  pub size : length present ≡ length synced
  pub flags : length touched ≡ length synced
  pub blocks : length marked ≡ length synced / 4096 + 1
  pub same : (k : ℕ) → slice_index_or touched k false ≡ false → slice_index present k ≡ slice_index synced k
  pub covered : (k : ℕ) → slice_index_or touched k false ≡ true → slice_index_or marked (k / 4096) false ≡ true
  pub octets : (k : ℕ) → slice_index present k < 256
  pub synced_octets : (k : ℕ) → slice_index synced k < 256

-- the marked blocks lie in a range of places
pub record IsSpanned (marked : List Bool) (first past : ℕ) : Type 0 where
  pub within : past ≤ length marked
  pub from : (b : ℕ) → slice_index_or marked b false ≡ true → first ≤ b
  pub to : (b : ℕ) → slice_index_or marked b false ≡ true → b < past

-- an image that a crash may leave: any octets where some were written since the last good sync
pub record IsCrashImage (synced : List ℕ) (touched : List Bool) (image : List ℕ) : Type 0 where
  pub size : length image ≡ length synced
  pub kept : (k : ℕ) → slice_index_or touched k false ≡ false → slice_index image k ≡ slice_index synced k
  pub octets : (k : ℕ) → slice_index_or touched k false ≡ true → slice_index image k < 256
