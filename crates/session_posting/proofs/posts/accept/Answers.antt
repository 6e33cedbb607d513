use Rattle.std.proofs.Common.{rules}
use Rattle.session_posting.proofs.posts.accept.Goals as goal

pub returns : goal.returns
returns c = search rules
