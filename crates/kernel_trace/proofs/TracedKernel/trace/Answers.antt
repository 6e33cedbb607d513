use Rattle.std.proofs.Common.{rules}
use Rattle.kernel_trace.proofs.TracedKernel.trace.Goals as goal

pub returns : goal.returns
returns c = search rules
