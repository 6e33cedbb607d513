use Rattle.std.proofs.Common.{rules}
use Rattle.text_article.proofs.Article.id.Goals as goal

pub returns-in-Some : goal.returns-in-Some
returns-in-Some c = search rules
