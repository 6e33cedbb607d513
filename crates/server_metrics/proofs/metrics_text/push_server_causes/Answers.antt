use Rattle.server_metrics.specs.Text.{server_causes}
use Rattle.server_metrics.proofs.Chains.{last, then}
use Rattle.server_metrics.proofs.metrics_text.push_server_causes.Goals as goal

pub returns : goal.returns
unfolding server_causes
returns c =
    last c.push_labelled-3.result _ _ _ _ _
    (then _ _ _ _ _ c.in_ok-push_labelled.ensures c.in_ok-push_labelled-2.ensures)
    c.push_labelled-3.ensures
