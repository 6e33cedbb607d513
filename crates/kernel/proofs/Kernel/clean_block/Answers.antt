use Rattle.std.proofs.Common.{ap}
use Rattle.kernel.specs.Kernel.{KernelView}
use Rattle.kernel.proofs.CleanLaws.{clean_seen, seen_when}
use Rattle.kernel.proofs.Kernel.clean_block.Goals as goal

pub returns-clause-clean : goal.returns-clause-clean
returns-clause-clean c =
    clean_seen (λ r. r.now) c.self.inside.spool c.args.self.now (ap (λ (k : KernelView). k.blocks) c.self.view_is)
    (ap (λ (k : KernelView). k.dirty) c.self.view_is) c.args.number c.clean_block.result c.clean_block.ensures.clean

pub returns-clause-when : goal.returns-clause-when
returns-clause-when c =
    seen_when (λ r. r.now) c.self.inside.spool c.args.self.now (ap (λ (k : KernelView). k.blocks) c.self.view_is)
    (ap (λ (k : KernelView). k.dirty) c.self.view_is) c.args.number c.clean_block.result c.clean_block.ensures.clean
    c.clean_block.ensures.none
