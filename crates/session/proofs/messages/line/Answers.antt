use Rattle.std.proofs.Common.{rules}
use Rattle.session.proofs.messages.line.Goals as goal

pub returns-in-Unknown : goal.returns-in-Unknown
returns-in-Unknown g c = search rules

pub returns-in-Bad : goal.returns-in-Bad
returns-in-Bad g c = search rules
