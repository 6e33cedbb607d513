use Rattle.std.proofs.Common.{◌-◌, ◌≤◌, length}
use Rattle.session_replies.proofs.Dots.{NoneDoubled}
use Rattle.session_replies.proofs.stuffing.Stuffing.line_dot.Given as goal

-- no octet before the place where the search goes on is doubled
abbrev pub invariant-loop-ahead : goal.invariant-loop-ahead
invariant-loop-ahead l = record { within : l.at ≤ length l.octets; plain : NoneDoubled l.self l.octets l.at }

abbrev pub decreases-loop-ahead : goal.decreases-loop-ahead
decreases-loop-ahead l = length l.octets - l.at
