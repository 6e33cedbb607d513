-- Sets of numbers below a bound.
use Rattle.std.specs.Prelude.{◌≡◌, ◌<◌, ◌≤◌, ℕ, ◌+◌, ◌-◌, ◌^◌, List, length, slice_index}
use Rattle.std.specs.List.{All}
use Rattle.model.specs.Volume.{AreDistinct}

-- the members in the order in which they were inserted
pub record Numbers : Type 0 where
  pub bound : ℕ
  pub members : List ℕ

pub record IsNumbers (s : Numbers) : Type 0 where
  pub below : All (λ n. n < s.bound) s.members
  pub distinct : AreDistinct s.members

-- a number's place is 1 more than its index among the members, or 0 if it is not among them or past the places
pub record IsIndex (bound : ℕ) (members places : List ℕ) : Type 0 where
  pub few : bound < 2 ^ 32
  pub below : (i : ℕ) → i < length members → slice_index members i < bound
  pub back : (i : ℕ) → i < length members → slice_index places (slice_index members i) ≡ i + 1
  pub low : (k : ℕ) → slice_index places k ≤ length members
  pub forth : (k : ℕ) → 0 < slice_index places k → slice_index members (slice_index places k - 1) ≡ k
