use Rattle.server_metrics.specs.Text.{traffic}
use Rattle.server_metrics.proofs.Chains.{last, then}
use Rattle.server_metrics.proofs.metrics_text.push_traffic.Goals as goal

pub returns : goal.returns
unfolding traffic
returns c =
    last c.push_wait.result _ _ _ _ _
    (then _ _ _ _ _ c.in_ok-push_counter.ensures c.in_ok-push_counter-2.ensures)
    c.push_wait.ensures
