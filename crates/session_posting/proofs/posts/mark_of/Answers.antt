use Rattle.std.proofs.Common.{rules}
use Rattle.session_posting.proofs.posts.mark_of.Goals as goal

pub returns-in-Long : goal.returns-in-Long
returns-in-Long c = search rules
