use Rattle.std.proofs.Common.{rules}
use Rattle.session_replies.proofs.reply_parts.push_number.Goals as goal

pub returns : goal.returns
returns c = search rules
