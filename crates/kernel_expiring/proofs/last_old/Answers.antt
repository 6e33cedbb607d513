use Rattle.std.proofs.Common.{◌-◌, ap, sym, ◌∙◌}
use Rattle.kernel_expiring.proofs.Runs.{run_begins, run_grows}
use Rattle.kernel_expiring.proofs.last_old.Goals as goal

pub loop-last-init : goal.loop-last-init
loop-last-init g c =
    run_begins (g.L.LookUps.changes c.args.spool.now) c.args.group.now c.args.since (c.counts_of-counts.result.low - 1)
    (ap (λ n. n - 1) c.counts_of-counts.ensures.low)

pub loop-last-preserved : goal.loop-last-preserved
loop-last-preserved g c =
    run_grows (g.L.LookUps.changes c.args.spool.now) c.args.group.now c.args.since c.loop-last.last c.loop-last.invariant
    (sym c.is_old.ensures ∙ c.if-is_old.true)
