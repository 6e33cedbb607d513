use Rattle.std.proofs.Common.{rules}
use Rattle.text_framing.proofs.Reader.new.Goals as goal

pub returns-clause-awaits : goal.returns-clause-awaits
returns-clause-awaits c = search rules
