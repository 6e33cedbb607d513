-- When a batch waits for more posts.
use Rattle.std.specs.Prelude.{ℕ}

-- a commit that takes longer is slow
abbrev pub slow_micros : ℕ
slow_micros = 200
