-- The refusals of each call as its errors. Each list is complete, so a new refusal needs a name here.
use Rattle.kernel.specs.Kernel.{Refusal}
use Rattle.kernel.specs.Kernel as kernel
use Rattle.kernel_shared.specs.declared.errors.JoinError.{JoinError}
use Rattle.kernel_shared.specs.declared.errors.JoinError.TheVariants as join
use Rattle.kernel_shared.specs.declared.errors.ExecError.{ExecError}
use Rattle.kernel_shared.specs.declared.errors.ExecError.TheVariants as exec
use Rattle.kernel_shared.specs.declared.errors.AdminError.{AdminError}
use Rattle.kernel_shared.specs.declared.errors.AdminError.TheVariants as admin
use Rattle.kernel_shared.specs.declared.errors.ExpireError.{ExpireError}
use Rattle.kernel_shared.specs.declared.errors.ExpireError.TheVariants as expire

-- join: Halted or TooManySessions; its tests give no other
abbrev pub of_join : Refusal → JoinError
of_join kernel.Halted = join.Halted
of_join kernel.TooManySessions = join.TooManySessions
of_join kernel.LaterDirty = join.Memory
of_join kernel.LaterOut = join.Memory
of_join kernel.NoSession = join.Memory
of_join kernel.NotFound = join.Memory
of_join kernel.Exists = join.Memory
of_join kernel.Full = join.Memory

-- exec: NoSession, LaterOut or LaterDirty; its tests give no other
abbrev pub of_exec : Refusal → ExecError
of_exec kernel.NoSession = exec.NoSession
of_exec kernel.LaterOut = exec.LaterOut
of_exec kernel.LaterDirty = exec.LaterDirty
of_exec kernel.Halted = exec.Memory
of_exec kernel.TooManySessions = exec.Memory
of_exec kernel.NotFound = exec.Memory
of_exec kernel.Exists = exec.Memory
of_exec kernel.Full = exec.Memory

-- admin: Halted, LaterDirty, Exists or Full; its tests give no other
abbrev pub of_admin : Refusal → AdminError
of_admin kernel.Halted = admin.Halted
of_admin kernel.LaterDirty = admin.LaterDirty
of_admin kernel.NotFound = admin.Memory
of_admin kernel.Exists = admin.Exists
of_admin kernel.Full = admin.Full
of_admin kernel.TooManySessions = admin.Memory
of_admin kernel.LaterOut = admin.Memory
of_admin kernel.NoSession = admin.Memory

-- expire: Halted, LaterDirty, NotFound or Full; its tests give no other
abbrev pub of_expire : Refusal → ExpireError
of_expire kernel.Halted = expire.Halted
of_expire kernel.LaterDirty = expire.LaterDirty
of_expire kernel.NotFound = expire.NotFound
of_expire kernel.Full = expire.Full
of_expire kernel.TooManySessions = expire.Memory
of_expire kernel.LaterOut = expire.Memory
of_expire kernel.NoSession = expire.Memory
of_expire kernel.Exists = expire.Memory
