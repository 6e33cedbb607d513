use Rattle.std.proofs.Common.{sym, ◌∙◌, ap, Some, ◌≡◌}
use Rattle.model.specs.Article.{cause as text_cause}
use Rattle.text_article.specs.Origins.{origin_of}
use Rattle.text_article.proofs.Article.read.Goals as goal

pub returns-in-Err-clause-bad : goal.returns-in-Err-clause-bad
returns-in-Err-clause-bad c cause same =
    let told : c.in-Err.cause ≡ cause = cc in
    ap (text_cause (origin_of c.args.origin)) (sym c.in_ok-reading.ensures) ∙ c.in-Err.ensures.bad
    ∙ ap Some told
