use Rattle.server_metrics.specs.Text.{sessions}
use Rattle.server_metrics.proofs.Chains.{last, then}
use Rattle.server_metrics.proofs.metrics_text.push_sessions.Goals as goal

pub returns : goal.returns
unfolding sessions
returns c =
    last c.push_callers.result _ _ _ _ _
    (then _ _ _ _ _ (then _ _ _ _ _ c.in_ok-push_states.ensures c.in_ok-push_counter.ensures) c.in_ok-push_counter-2.ensures)
    c.push_callers.ensures
