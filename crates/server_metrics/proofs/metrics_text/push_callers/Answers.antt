use Rattle.server_metrics.specs.Text.{callers}
use Rattle.server_metrics.proofs.Chains.{last, then}
use Rattle.server_metrics.proofs.metrics_text.push_callers.Goals as goal

pub returns : goal.returns
unfolding callers
returns c =
    last c.push_other_callers.result _ _ _ _ _
    (then _ _ _ _ _ c.in_ok-push_head.ensures c.in_ok-push_first_callers.ensures)
    c.push_other_callers.ensures
