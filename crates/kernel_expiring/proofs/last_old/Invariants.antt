use Rattle.std.proofs.Common.{◌-◌}
use Rattle.kernel_expiring.proofs.Runs.{IsRun}
use Rattle.kernel_expiring.proofs.last_old.Given as goal

-- what was found so far is old
abbrev pub invariant-loop-last : goal.invariant-loop-last
invariant-loop-last g l = IsRun (g.L.LookUps.changes l.spool) l.group l.since l.last

abbrev pub decreases-loop-last : goal.decreases-loop-last
decreases-loop-last g l = l.counts.high - l.last
