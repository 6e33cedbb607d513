use Rattle.std.proofs.Common.{◌-◌}
use Rattle.kernel_seats.proofs.Halving.{IsBetween}
use Rattle.kernel_seats.proofs.position.Given as goal

abbrev pub invariant-loop-low : goal.invariant-loop-low
invariant-loop-low l = IsBetween l.seats l.sid l.low l.high

abbrev pub decreases-loop-low : goal.decreases-loop-low
decreases-loop-low l = l.high - l.low
