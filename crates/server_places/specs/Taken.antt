-- Who has the places for large replies, and who waits for one.
use Rattle.std.specs.Prelude.{◌≡◌, ◌<◌, ℕ, List, Option, None, Some, Any, IsSomeAnd, false, length, set, slice_index_or}
use Rattle.text_networks.specs.Guests.{has_most}
use Rattle.text_networks.specs.declared.guests.Guest.{Guest}
use Rattle.text_networks.specs.declared.guests.Guests.{Guests}
use Rattle.server_places.specs.declared.table.Waiter.{Waiter}

-- a guest that may have one more takes this seat, which was free, and nothing else changes
abbrev pub Takes : List (Option Guest) → Guests → Guest → ℕ → Type 0
Takes before after guest seat =
    (seat < length before) × (slice_index_or before seat (Some guest) ≡ None) × (after.seats.items ≡ set before seat (Some guest))

abbrev pub IsTaken : Guests → Guests → Guest → ℕ → Type 0
IsTaken before after guest seat =
    Takes before.seats.items after guest seat × (has_most before.seats.items before.most_from guest ≡ false)

-- the session of this writer waits at this place
abbrev pub IsAt : List Waiter → ℕ → ℕ → Type 0
IsAt waiting writer at = (at < length waiting) × ((w : Waiter) → slice_index_or waiting at w ≡ w → w.writer ≡ writer)

-- one of these waits for the session of this writer, and was given this seat
abbrev pub WasGiven : List Waiter → ℕ → ℕ → Type 0
WasGiven waiting writer seat = Any (λ w. (w.writer ≡ writer) × (w.given ≡ Some (record { seat = seat }))) waiting

-- the session of this writer waits, and is given a seat that was free
abbrev pub GivesOn : List (Option Guest) → Guests → List Waiter → ℕ → Type 0
GivesOn before after waiting writer =
    Any (λ w. (w.writer ≡ writer) × IsSomeAnd w.given (λ held. Takes before after w.guest held.seat)) waiting
