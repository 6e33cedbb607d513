use Rattle.server_metrics.specs.Text.{volume}
use Rattle.server_metrics.proofs.Chains.{last, then}
use Rattle.server_metrics.proofs.metrics_text.push_volume.Goals as goal

pub returns : goal.returns
unfolding volume
returns c =
    last c.push_gauge-4.result _ _ _ _ _
    (then _ _ _ _ _ (then _ _ _ _ _ (then _ _ _ _ _ c.in_ok-push_changes.ensures c.in_ok-push_gauge.ensures)
    c.in_ok-push_gauge-2.ensures) c.in_ok-push_gauge-3.ensures)
    c.push_gauge-4.ensures
