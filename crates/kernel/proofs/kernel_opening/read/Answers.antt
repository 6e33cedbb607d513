use Rattle.std.proofs.lemmas.Result.{IfErr-weaker, IfOk-weaker}
use Rattle.kernel.proofs.DeviceLaws.{damaged_so, loaded_so}
use Rattle.kernel.proofs.kernel_opening.read.Goals as goal

pub returns-clause-ok : goal.returns-clause-ok
returns-clause-ok g c =
    IfOk-weaker c.spool_in.result _ _
    (λ spool is. loaded_so g.D.Disk.device c.args.journal.now c.in_ok-host.field-0 c.in_ok-host.ensures.ok c.new.result c.new.ensures spool
    is)
    c.spool_in.ensures.ok

pub returns-clause-damaged : goal.returns-clause-damaged
returns-clause-damaged g c =
    IfErr-weaker c.spool_in.result _ _
    (λ error none is. damaged_so g.D.Disk.device c.args.journal.now c.in_ok-host.field-0 c.in_ok-host.ensures.ok c.new.result c.new.ensures
    (none is))
    c.spool_in.ensures.damaged
