use Rattle.std.proofs.Common.{rules}
use Rattle.spool.proofs.article_room.is_large.Goals as goal

pub returns-else-high-gt-MOST_NUMBERS : goal.returns-else-high-gt-MOST_NUMBERS
returns-else-high-gt-MOST_NUMBERS c = search rules
