-- The outputs of one session that are not yet handed out whole, and what a release hands out of them. All of this is
-- this project's rule.
use Rattle.std.specs.Prelude.{◌≡◌, ℕ, ◌-◌, Bool, true, false, not, ◌&&◌, ◌||◌, ◌==◌, nat_lt, if◌then◌else◌, List, [], ◌∷◌, ◌++◌, length}
use Rattle.std.specs.Prelude.{take, drop, map, sum_by}
use Rattle.std.specs.List.{concat}

-- An output that is not yet handed out whole: the octets still to be handed out, the number of changes that must be
-- durable before any of these octets may be, and whether the session ends after them.
pub record HeldOutput : Type 0 where
  pub octets : List ℕ
  pub dependency : ℕ
  pub ends : Bool

-- the number of octets that are held
abbrev pub buffered : List HeldOutput → ℕ
buffered held = sum_by (λ (h : HeldOutput). length h.octets) held

-- the dependency of the last output, held or given
abbrev pub last_dependency : ℕ → List HeldOutput → ℕ
last_dependency given [] = given
last_dependency given (held ∷ rest) = last_dependency held.dependency rest

-- an output that ends the session is the last one
abbrev pub OnlyLastEnds : List HeldOutput → Type 0
OnlyLastEnds [] = Unit {0}
OnlyLastEnds (held ∷ rest) = (held.ends ≡ true → rest ≡ []) × OnlyLastEnds rest

-- What is given if there is room for a number of octets: the room that is left, the octets, whether the session ends
-- after them, and what is kept of `given` and `held`.
pub record Giving : Type 0 where
  pub room : ℕ
  pub octets : List ℕ
  pub ended : Bool
  pub given : ℕ
  pub held : List HeldOutput

abbrev pub nothing_more : ℕ → ℕ → List HeldOutput → Giving
nothing_more room given held = record { room = room; octets = []; ended = false; given = given; held = held }

-- an output without its first octets
abbrev pub cut_at : ℕ → HeldOutput → HeldOutput
cut_at count held = record { octets = drop count held.octets; dependency = held.dependency; ends = held.ends }

-- a whole output, and what is given after it
abbrev pub behind : HeldOutput → Giving → Giving
behind held later = record {
  room = later.room;
  octets = held.octets ++ later.octets;
  ended = held.ends || later.ended;
  given = later.given;
  held = later.held;
}

-- The first outputs that depend on at most p changes, in order, while there is room. The last may be cut: then the rest
-- stays first in the queue, and the session's end stays with it.
abbrev pub give : ℕ → ℕ → ℕ → List HeldOutput → Giving
give p room given [] = nothing_more room given []
give p room given (held ∷ rest) =
    if nat_lt p held.dependency || room == 0 then nothing_more room given (held ∷ rest)
    else if nat_lt room (length held.octets) then record {
      room = 0;
      octets = take room held.octets;
      ended = false;
      given = given;
      held = cut_at room held ∷ rest;
    }
    else behind held (give p (room - length held.octets) held.dependency rest)

-- an entry of the buffer that a release fills: a session's number, its octets, and whether it ends after them
abbrev pub ReadyEntry : Type 0
ReadyEntry = ℕ × List ℕ × Bool

-- a session's entry, if octets are given or the session ends
abbrev pub entry_of : ℕ → Giving → List ReadyEntry
entry_of number g = if length g.octets == 0 && not g.ended then [] else (number, g.octets, g.ended) ∷ []

-- the number of octets in these entries
abbrev pub octets_in : List ReadyEntry → ℕ
octets_in entries = sum_by (λ (e : ReadyEntry). length e.1) entries

-- the octets of these entries, one entry's after the other
abbrev pub octets_along : List ReadyEntry → List ℕ
octets_along entries = concat (map (λ (e : ReadyEntry). e.1) entries)
