use Rattle.std.proofs.Common.{rules}
use Rattle.session.proofs.messages.served.Goals as goal

pub returns : goal.returns
returns c = search rules
