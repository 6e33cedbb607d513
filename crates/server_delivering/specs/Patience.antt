-- How long a message may take to come.
use Rattle.std.specs.Prelude.{ℕ, ◌+◌, ◌-◌, ◌*◌, ◌/◌, ◌^◌, min}
use Rattle.std.specs.Duration.{as_nanos, max_nanos}
use Rattle.model.specs.declared.message.Mode.{Mode}
use Rattle.model.specs.declared.message.Mode.TheVariants as mode
use Rattle.server_delivering.specs.declared.limits.Limits.{Limits}

-- the nanoseconds that a message may take of which so many octets have come: a block gets a second for each hundred
abbrev pub most_nanos : Limits → Mode → ℕ → ℕ
most_nanos limits mode.Line octets = as_nanos limits.message
most_nanos limits mode.Block octets = min (as_nanos limits.message + octets / 100 * 1_000_000_000) max_nanos

-- the fewest octets that a caller with a place may take in so many seconds in which the server waits for it: a hundred a second
abbrev pub least_octets : ℕ → ℕ
least_octets seconds = min (100 * seconds) (2 ^ 64 - 1)
