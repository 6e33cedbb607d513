use Rattle.std.proofs.Common.{min, sym, subst}
use Rattle.model.specs.News.{Stands}
use Rattle.kernel.specs.Kernel.{KernelView}
use Rattle.kernel.specs.Opening.{IsOpened}
use Rattle.kernel.proofs.DeviceLaws.{kernel_opened}
use Rattle.kernel.proofs.device_opening.open.Goals as goal

pub returns-clause-opened : goal.returns-clause-opened
returns-clause-opened g c =
    let o = c.in_ok-journal.field-0 in
    subst (λ (k : KernelView). IsOpened g.D.Disk.device o.journal k) (sym c.new.ensures)
    (kernel_opened g.D.Disk.device o.journal o.spool (min c.args.most 4096) c.in_ok-journal.ensures.loaded)

pub returns-clause-spool : goal.returns-clause-spool
returns-clause-spool g c tells =
    subst (λ (k : KernelView). Stands k.host (g.D.Disk.device c.args.disk).content k.spool) (sym c.new.ensures)
    (c.in_ok-journal.ensures.spool tells)
