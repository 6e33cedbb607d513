use Rattle.server_metrics.specs.Text.{times}
use Rattle.server_metrics.proofs.Chains.{last, then}
use Rattle.server_metrics.proofs.metrics_text.push_times.Goals as goal

pub returns : goal.returns
unfolding times
returns c =
    last c.push_sample.result _ _ _ _ _
    (then _ _ _ _ _ c.in_ok-push_head.ensures c.in_ok-push_seconds.ensures)
    c.push_sample.ensures
