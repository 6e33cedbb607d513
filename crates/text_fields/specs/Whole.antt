-- Whole lines, octet by octet.
use Rattle.std.specs.Prelude.{ℕ, Bool, not, ◌&&◌, ◌==◌, cond, [], ◌∷◌}
use Rattle.model.specs.Stream.{Octets}

-- an octet after `before` may stand in whole lines: it is not NUL, and it is LF exactly if `before` is CR
abbrev pub may_follow : ℕ → ℕ → Bool
may_follow before x = not (x == 0) && cond (before == 13) (x == 10) (not (x == 10))

-- the octets after `before` go on as whole lines do, to the end of a line
unfoldable pub ends_whole : ℕ → Octets → Bool
ends_whole before [] = before == 10
ends_whole before (x ∷ rest) = may_follow before x && ends_whole x rest
