use Rattle.std.proofs.Common.{◌≤◌, ◌-◌, length}
use Rattle.text_framing.specs.Held.{NoneEnds}
use Rattle.text_framing.proofs.find_end.Given as goal

-- what was searched
abbrev pub invariant-loop-step : goal.invariant-loop-step
invariant-loop-step l = record {
  low : l.searched ≤ l.at;
  high : l.at ≤ length l.stream;
  none : NoneEnds l.mode l.stream l.searched l.at;
}

abbrev pub decreases-loop-step : goal.decreases-loop-step
decreases-loop-step l = length l.stream - l.at
