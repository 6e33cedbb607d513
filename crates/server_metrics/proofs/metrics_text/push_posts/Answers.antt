use Rattle.server_metrics.specs.Text.{posts}
use Rattle.server_metrics.proofs.Chains.{last}
use Rattle.server_metrics.proofs.metrics_text.push_posts.Goals as goal

pub returns : goal.returns
unfolding posts
returns c = last c.push_refused.result _ _ _ _ _ c.in_ok-push_counter.ensures c.push_refused.ensures
