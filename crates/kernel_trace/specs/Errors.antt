use Rattle.kernel.specs.Kernel.{Refusal}
use Rattle.kernel.specs.Kernel as kernel
use Rattle.kernel_trace.specs.declared.errors.ArriveError.{ArriveError}
use Rattle.kernel_trace.specs.declared.errors.ArriveError.TheVariants.{Memory, NoSession}

-- arrive: NoSession; its test gives no other. The list is complete, so a new refusal needs a name here.
abbrev pub of_arrive : Refusal → ArriveError
of_arrive kernel.NoSession = NoSession
of_arrive kernel.Halted = Memory
of_arrive kernel.TooManySessions = Memory
of_arrive kernel.LaterDirty = Memory
of_arrive kernel.LaterOut = Memory
of_arrive kernel.Exists = Memory
of_arrive kernel.NotFound = Memory
of_arrive kernel.Full = Memory
