-- The places of groups by their names.
use Rattle.std.specs.Prelude.{◌≡◌, ℕ, ◌<◌, List, length, map, slice_index_or, [], Some}
use Rattle.model.specs.Stream.{Octets}
use Rattle.model.specs.Indexed.{GroupIndex, value_of}

abbrev pub heads : List GroupIndex → List Octets
heads groups = map (λ i. i.group.name) groups

abbrev pub name_at : List Octets → ℕ → Octets
name_at names k = slice_index_or names k []

-- the name at this place
pub record IsNamed (names : List Octets) (place : ℕ) (name : Octets) : Type 0 where
  pub there : place < length names
  pub its : name_at names place ≡ name

-- each name has its place, and no other name has one
pub record AreNamed (places : List (Octets × ℕ)) (names : List Octets) : Type 0 where
  pub from : (name : Octets) (k : ℕ) → value_of places name ≡ Some k → IsNamed names k name
  pub to : (k : ℕ) → k < length names → value_of places (name_at names k) ≡ Some k
