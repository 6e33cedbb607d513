-- The bits of octets, the lowest of each octet first.
use Rattle.std.specs.Prelude.{◌≡◌, ◌≢◌, ℕ, ◌/◌, ◌%◌, ◌^◌, Bool, ◌==◌, nat_lt, length, slice_index}
use Rattle.model.specs.Stream.{Octets}

abbrev pub bit_of : Octets → ℕ → Bool
bit_of octets bit = slice_index octets (bit / 8) / 2 ^ (bit % 8) % 2 == 1

-- this bit gets that value, and no other changes
pub record SetsBit (bit : ℕ) (value : Bool) (old new : Octets) : Type 0 where
  pub size : length new ≡ length old
  pub here : bit_of new bit ≡ value
  pub other : (b : ℕ) → b ≢ bit → bit_of new b ≡ bit_of old b

-- the first bits are set, this many and no others
abbrev pub IsFront : ℕ → Octets → Type 0
IsFront count octets = (b : ℕ) → bit_of octets b ≡ nat_lt b count
