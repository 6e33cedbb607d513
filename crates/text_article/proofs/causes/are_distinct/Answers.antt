use Rattle.std.proofs.Common.{sym, ◌∙◌}
use Rattle.text_article.proofs.CauseLaws.{distinct-more, distinct-twice, distinct-none}
use Rattle.text_article.proofs.causes.are_distinct.Goals as goal

pub returns-then-is_among : goal.returns-then-is_among
returns-then-is_among c = sym (distinct-twice c.loop-rest.rest.now _ c.in-len1-up.len_at_least (sym c.if-is_among.ensures))
    ∙ c.loop-rest.invariant

pub loop-rest-preserved : goal.loop-rest-preserved
loop-rest-preserved c = distinct-more c.loop-rest.rest.now _ c.in-len1-up.len_at_least (sym c.if-is_among.ensures) ∙ c.loop-rest.invariant

pub returns : goal.returns
returns c = sym (distinct-none c.loop-rest.rest.now c.in_default.len_below) ∙ c.loop-rest.invariant
