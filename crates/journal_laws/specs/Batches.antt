-- Batches of several open segments, laid over the home of the logical blocks.
use Rattle.std.specs.Prelude.{◌≡◌, ◌≢◌, ◌<◌, ◌≤◌, ℕ, List, [], ◌∷◌, length, slice_index, slice_index_or}
use Rattle.model.specs.Volume.{Batch}

-- each batch has an image for each of its numbers
abbrev pub AreFull : List Batch → Type 0
AreFull [] = Unit {0}
AreFull (batch ∷ batches) = (length batch.numbers ≤ length batch.images) × AreFull batches

-- a number that is none of these
abbrev pub IsNoneOf : ℕ → List ℕ → Type 0
IsNoneOf k ns = (i : ℕ) → i < length ns → k ≢ slice_index ns i

-- no batch has an image of block k
abbrev pub HaveNone : ℕ → List Batch → Type 0
HaveNone k [] = Unit {0}
HaveNone k (batch ∷ batches) = IsNoneOf k batch.numbers × HaveNone k batches

-- homes that differ only in blocks of which some batch has an image
pub record AgreeBut (batches : List Batch) (old new : List (List ℕ)) : Type 0 where
  pub size : length new ≡ length old
  pub same : (k : ℕ) → HaveNone k batches → slice_index_or new k [] ≡ slice_index_or old k []

-- all have lesser numbers; all have greater ones
abbrev pub AreBelow : ℕ → List Batch → Type 0
AreBelow n [] = Unit {0}
AreBelow n (batch ∷ batches) = (batch.number < n) × AreBelow n batches

abbrev pub AreAbove : ℕ → List Batch → Type 0
AreAbove n [] = Unit {0}
AreAbove n (batch ∷ batches) = (n < batch.number) × AreAbove n batches
