use Rattle.std.proofs.Common.{rules}
use Rattle.session_replies.proofs.sessions.at_number.Goals as goal

pub returns : goal.returns
returns c = search rules
