use Rattle.std.proofs.Common.{sym, subst}
use Rattle.model.specs.declared.message.Message.{Message}
use Rattle.kernel.specs.Errors.{of_exec}
use Rattle.kernel.specs.Kernel.{Execs, FitsMode, KernelView, Tested, exec_refusal, mode_at}
use Rattle.kernel_shared.specs.declared.errors.ExecError.TheVariants.{Memory}
use Rattle.kernel.proofs.Kernel.exec.Goals as goal

pub exec_received-requires : goal.exec_received-requires
exec_received-requires c = subst (λ (m : Message). FitsMode (mode_at c.args.self.now c.args.sid) m) (sym c.of-received.ensures) c.requires

pub returns : goal.returns
returns c =
    let old : KernelView = c.args.self.now in
    let new : KernelView = c.exec_received.new.self in
    subst (λ (m : Message). Tested of_exec Memory (exec_refusal old c.args.sid m) old new c.exec_received.result
    (Execs old new c.args.sid m c.args.moment)) c.of-received.ensures c.exec_received.ensures
