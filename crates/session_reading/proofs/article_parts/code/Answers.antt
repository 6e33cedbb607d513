use Rattle.std.proofs.Common.{rules}
use Rattle.session_reading.proofs.article_parts.code.Goals as goal

pub returns-in-Nothing : goal.returns-in-Nothing
returns-in-Nothing c = search rules
