use Rattle.volume_states.proofs.Totals.{gone_more}
use Rattle.volume_states.proofs.gone.gone_articles.Goals as goal

pub loop-before-preserved : goal.loop-before-preserved
loop-before-preserved c host S lawful indexed =
    gone_more S c.loop-before.before c.loop-before.gone c.in_ok-share_with.field-0 c.plus-gone.result
    (c.in_ok-share_with.ensures host S lawful indexed)
    c.plus-gone.ensures.articles c.plus-gone.ensures.texts c.plus-gone.ensures.octets
    (c.loop-before.invariant host S lawful indexed)
