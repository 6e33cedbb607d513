use Rattle.std.proofs.Common.{rules}
use Rattle.session_replies.proofs.texts.Heading.text.Goals as goal

pub returns-in-Overview : goal.returns-in-Overview
returns-in-Overview c = search rules
