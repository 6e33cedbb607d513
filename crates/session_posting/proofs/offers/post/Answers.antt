use Rattle.std.proofs.Common.{rules}
use Rattle.session_posting.proofs.offers.post.Goals as goal

pub returns : goal.returns
returns c = search rules
