use Rattle.server_metrics.specs.Text.{refused}
use Rattle.server_metrics.proofs.Chains.{last, then}
use Rattle.server_metrics.proofs.metrics_text.push_refused.Goals as goal

pub returns : goal.returns
unfolding refused
returns c =
    last c.push_server_causes.result _ _ _ _ _
    (then _ _ _ _ _ (then _ _ _ _ _ (then _ _ _ _ _ c.in_ok-push_head.ensures c.in_ok-push_form_causes.ensures)
    c.in_ok-push_fields_causes.ensures) c.in_ok-push_spool_causes.ensures)
    c.push_server_causes.ensures
