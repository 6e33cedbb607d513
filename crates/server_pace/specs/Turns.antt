-- When the articles of an address are read, where one may post so many in a minute.
use Rattle.std.specs.Prelude.{◌≡◌, ◌⊎◌, ◌+◌, ◌-◌, ◌^◌, ◌<◌, ℕ, Bool, true, false, if◌then◌else◌, List, Option, None, Some}
use Rattle.std.specs.Prelude.{All, length, min, nat_le, nat_lt, set, slice_index_or}
use Rattle.std.specs.declared.net.ip_addr.IpAddr.{IpAddr}
use Rattle.text_networks.specs.Guests.{same_home}
use Rattle.server_pace.specs.declared.table.Poster.{Poster}
use Rattle.server_pace.specs.declared.table.Turn.{Turn}

-- the place of an address: what is remembered there is of an address that counts as one with it
abbrev pub is_own : IpAddr → Option Poster → Bool
is_own address None = false
is_own address (Some poster) = same_home poster.address address

-- a place that any address may have: nothing is remembered there, or a turn of an earlier minute
abbrev pub is_past : ℕ → Option Poster → Bool
is_past now None = true
is_past now (Some poster) = nat_lt poster.latest.minute now

-- the latest turn of an address that has this place
abbrev pub own_turn : IpAddr → Option Poster → Option Turn
own_turn address None = None
own_turn address (Some poster) = if same_home poster.address address then Some poster.latest else None

-- the turn of an address's next article: it is read now, unless as many as may be are read in this minute; then it is read in the next one
-- of which that isn't so
abbrev pub next_turn : ℕ → ℕ → Option Turn → Turn
next_turn most now None = record { minute = now; count = 1 }
next_turn most now (Some latest) =
    if nat_lt latest.minute now then record { minute = now; count = 1 }
    else if nat_le most latest.count then record { minute = min (latest.minute + 1) (2 ^ 64 - 1); count = 1 }
    else record { minute = latest.minute; count = latest.count + 1 }

-- where an address is remembered: at its own place, or where it has none at one that any may have
abbrev pub IsPlaceOf : List (Option Poster) → IpAddr → ℕ → ℕ → Type 0
IsPlaceOf posters address now at = (at < length posters) ×
    ((is_own address (slice_index_or posters at None) ≡ true)
    ⊎ (All (λ poster. is_own address poster ≡ false) posters × (is_past now (slice_index_or posters at None) ≡ true)))

-- no place can be had: none is the address's own, and none is past
abbrev pub HasNoPlace : List (Option Poster) → IpAddr → ℕ → Type 0
HasNoPlace posters address now =
    All (λ poster. is_own address poster ≡ false) posters × All (λ poster. is_past now poster ≡ false) posters

-- the turn that the next article of an address is given, if it is remembered at this place
abbrev pub turn_at : List (Option Poster) → ℕ → IpAddr → ℕ → ℕ → Turn
turn_at posters most address now at = next_turn most now (own_turn address (slice_index_or posters at None))

-- the places after an article of an address was given its turn
abbrev pub given : List (Option Poster) → ℕ → IpAddr → ℕ → ℕ → List (Option Poster)
given posters most address now at =
    set posters at (Some (record { address = address; latest = turn_at posters most address now at }))
