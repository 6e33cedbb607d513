-- The moments that a server gives while its clock goes back.
use Rattle.std.specs.Prelude.{ℕ, ◌+◌, ◌&&◌, if◌then◌else◌, nat_lt}
use Rattle.model.specs.Calendar.{moment_limit}

-- The moment that is given after another one, where the clock reads so many seconds: the last one, where the clock has gone back by less
-- than a day.
abbrev pub given_after : ℕ → ℕ → ℕ
given_after last read =
    if nat_lt last moment_limit && nat_lt read last && nat_lt last (read + 86_400) then last else read
