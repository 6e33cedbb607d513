-- The latest moments of articles, up to each change.
use Rattle.std.specs.Prelude.{◌≡◌, ◌⊎◌, ℕ, ◌<◌, ◌≤◌, List, length, slice_get, slice_index, Some}
use Rattle.spool_index.specs.Notes.{moment_in}
use Rattle.spool_index.specs.declared.note.Note.{Note}

-- for each change the latest moment of an article up to it, or 0 if there is none
pub record AreLatest (moments : List ℕ) (notes : List Note) : Type 0 where
  pub each : length moments ≡ length notes
  pub rise : (i j : ℕ) → i ≤ j → j < length moments → slice_index moments i ≤ slice_index moments j
  pub reach : (k : ℕ) (n : Note) (moment : ℕ) → slice_get notes k ≡ Some n → moment_in n ≡ Some moment → moment ≤ slice_index moments k
  pub its : (k : ℕ) → k < length moments
      → (slice_index moments k ≡ 0) ⊎ ((j : ℕ) × (n : Note) × (j ≤ k) × (slice_get notes j ≡ Some n)
      × (moment_in n ≡ Some (slice_index moments k)))
