use Rattle.std.proofs.Common.{take}
use Rattle.kernel_locked.specs.Locked.{Copies}
use Rattle.kernel_locked.proofs.locked.copy_clean_in.Given as goal

abbrev pub invariant-loop-number : goal.invariant-loop-number
invariant-loop-number l = Copies l.kernel (take l.number-index l.numbers) l.initial.into l.into
