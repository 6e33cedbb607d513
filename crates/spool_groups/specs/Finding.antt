-- Look-ups in the index of a group.
use Rattle.std.specs.Prelude.{◌≡◌, ℕ, ◌-◌, ◌<◌, ◌==◌, ◌&&◌, nat_lt, if◌then◌else◌, Bool, List, drop, length, slice_get}
use Rattle.std.specs.Prelude.{slice_index, Option, None, Some}
use Rattle.std.specs.List.{list_any}
use Rattle.model.specs.Names.{wildmat_matches}
use Rattle.model.specs.Stream.{Octets}
use Rattle.model.specs.Indexed.{GroupIndex}
use Rattle.session_lookups.specs.Held.{Known}

-- each number is below all later ones
abbrev pub Rise : List ℕ → Type 0
Rise ns = (i j : ℕ) → i < j → j < length ns → slice_index ns i < slice_index ns j

-- the articles of each group are in rising serial
abbrev pub EachRises : List GroupIndex → Type 0
EachRises groups = (k : ℕ) (i : GroupIndex) → slice_get groups k ≡ Some i → Rise i.filed

-- the serial of the article that is in the group under this number
abbrev pub filed_at : GroupIndex → ℕ → Option ℕ
filed_at i n = if nat_lt n i.low then None else if n == 0 then None else slice_get i.filed (n - 1)

-- the article with this serial is in the group
abbrev pub contains : ℕ → GroupIndex → Bool
contains serial i = list_any (λ n. n == serial) (drop (i.low - 1) i.filed)

-- it is, and the wildmat matches the name of the group
abbrev pub is_matching : Octets → ℕ → GroupIndex → Bool
is_matching wildmat serial i = wildmat_matches wildmat i.group.name && contains serial i

-- ---- as the commands see a group

abbrev pub known_in : GroupIndex → Known
known_in i = record { listed = record { group = i.group; low = i.low; high = length i.filed }; last = i.last }
