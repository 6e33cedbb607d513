use Rattle.kernel_expiring.proofs.Counted.{IsCount}
use Rattle.kernel_expiring.proofs.gone.gone_among.Given as goal

-- of the changes so far
abbrev pub invariant-loop-passed : goal.invariant-loop-passed
invariant-loop-passed g l = IsCount (g.L.LookUps.changes l.spool) l.first l.passed l.gone
