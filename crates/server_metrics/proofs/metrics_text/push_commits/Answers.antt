use Rattle.server_metrics.specs.Text.{commits}
use Rattle.server_metrics.proofs.Chains.{last, then}
use Rattle.server_metrics.proofs.metrics_text.push_commits.Goals as goal

pub returns : goal.returns
unfolding commits
returns c =
    last c.push_times.result _ _ _ _ _
    (then _ _ _ _ _ c.in_ok-push_counter.ensures c.in_ok-push_counter-2.ensures)
    c.push_times.ensures
