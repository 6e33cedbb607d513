-- What a writer gets of octets that are written in pieces.
use Rattle.std.specs.Prelude.{ℕ, List, Option, ◌≤◌, ◌-◌, take, drop}
use Rattle.std.specs.Io.KnownBytes.{Appends}

-- those from one place to the next, in this order and nothing else
abbrev pub Wrote : List ℕ → ℕ → ℕ → Option (List ℕ) → Option (List ℕ) → Type 0
Wrote octets from to before after = (from ≤ to) × Appends before after (take (to - from) (drop from octets))
