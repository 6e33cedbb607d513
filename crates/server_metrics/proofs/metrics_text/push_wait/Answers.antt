use Rattle.server_metrics.specs.Text.{wait}
use Rattle.server_metrics.proofs.Chains.{last}
use Rattle.server_metrics.proofs.metrics_text.push_wait.Goals as goal

pub returns : goal.returns
unfolding wait
returns c = last c.push_seconds.result _ _ _ _ _ c.in_ok-push_head.ensures c.push_seconds.ensures
