use Rattle.std.proofs.Common.{rules}
use Rattle.text_article.proofs.causes.is_short.Goals as goal

pub returns-then-added-header : goal.returns-then-added-header
returns-then-added-header c = search rules
