use Rattle.std.proofs.Common.{rules}
use Rattle.text_framing.proofs.Reader.held.Goals as goal

pub returns-clause-size : goal.returns-clause-size
returns-clause-size c = search rules
