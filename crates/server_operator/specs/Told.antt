-- What the operator's thread has seen of the mark when it answers.
use Rattle.std.specs.Prelude.{◌≡◌, ◌≤◌, Bool, IfSome, is_none, true}
use Rattle.kernel_expiring.specs.declared.AgedArticles.{AgedArticles}
use Rattle.server_mark.specs.Seats.{SeatView}
use Rattle.server_operator.specs.declared.line_answer.Told.{Told}
use Rattle.server_operator.specs.declared.line_answer.Told.TheVariants.{Articles, Dropped, Expiry, Serial, Sessions, Status, Stopped}

-- the flusher was seen to have stopped, and the number of durable changes was read after that
abbrev pub HasSeenStop : SeatView → Type 0
HasSeenStop seat = (seat.told ≡ true) × (seat.after_stop ≡ true)

-- An answer says no more than what was seen: a serial that is durable, alone or of an expiry, or the flusher's stop, after
-- which at least the accepted changes were durable.
abbrev pub IsSeen : SeatView → Told → Type 0
IsSeen seat (Serial serial) = serial ≤ seat.seen
IsSeen seat (Expiry serial name number) = IfSome serial (λ n. n ≤ seat.seen)
IsSeen seat (Articles articles) = Unit {0}
IsSeen seat (Status status) = Unit {0}
IsSeen seat (Sessions listed) = Unit {0}
IsSeen seat (Dropped sessions) = Unit {0}
IsSeen seat (Stopped accepted) = HasSeenStop seat × (accepted ≤ seat.seen)

-- the expiry of these articles is told, with its serial unless it is a dry run
abbrev pub IsExpiryOf : AgedArticles → Bool → Told → Type 0
IsExpiryOf aged is_dry (Expiry serial name number) = (name ≡ aged.name) × (number ≡ aged.number) × (is_none serial ≡ is_dry)
IsExpiryOf aged is_dry (Serial serial) = ⊥
IsExpiryOf aged is_dry (Articles articles) = ⊥
IsExpiryOf aged is_dry (Status status) = ⊥
IsExpiryOf aged is_dry (Sessions listed) = ⊥
IsExpiryOf aged is_dry (Dropped sessions) = ⊥
IsExpiryOf aged is_dry (Stopped accepted) = ⊥
