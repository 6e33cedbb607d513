use Rattle.std.proofs.Common.{sym, ◌∙◌, ap, subst}
use Rattle.model.specs.Article.{cause}
use Rattle.text_article.specs.Origins.{origin_of}
use Rattle.text_article.specs.Parts.{AreParts, ArePartsOf}
use Rattle.text_article.proofs.ReadLaws.{cause-lines}
use Rattle.text_article.proofs.Article.of.Goals as goal

pub article_of-requires-clause-parts : goal.article_of-requires-clause-parts
article_of-requires-clause-parts c =
    let text = c.reading.inside.text.now in
    let said : ArePartsOf text c.in-Ok.parts = subst (AreParts text) c.in-Ok.is c.reading.invariant.parts in
    rw c.in-Ok.is said

pub returns-in-Err-clause-bad : goal.returns-in-Err-clause-bad
returns-in-Err-clause-bad c =
    let origin = origin_of c.args.origin in
    let text = c.reading.inside.text.now in
    ap (cause origin) (sym c.reading.view_is)
    ∙ cause-lines origin text c.in-Err.cause (subst (AreParts text) c.in-Err.is c.reading.invariant.parts)
