use Rattle.std.proofs.Common.{arith}
use Rattle.std.proofs.lemmas.Grind.{elements}
use Rattle.kernel_outbox.proofs.ready.ReadyBuf.entry.Goals as goal

pub returns : goal.returns
returns c = grind (arith, elements)
