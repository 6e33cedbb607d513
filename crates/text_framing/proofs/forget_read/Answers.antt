use Rattle.std.proofs.Common.{rules}
use Rattle.text_framing.proofs.forget_read.Goals as goal

pub returns-then-read-len-clause-half : goal.returns-then-read-len-clause-half
returns-then-read-len-clause-half c = search rules
