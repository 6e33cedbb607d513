use Rattle.std.proofs.Common.{rules}
use Rattle.text_article.proofs.Article.header.Goals as goal

pub returns : goal.returns
returns c = search rules
