use Rattle.std.proofs.Common.{subst}
use Rattle.kernel_expiring.specs.Ages.{IsAgedGroup}
use Rattle.spool.specs.View.{SpoolView}
use Rattle.program_changes.proofs.ages.TakingOutTreatOld.find.Goals as goal

pub returns : goal.returns
returns g c =
    subst (λ (s : SpoolView). IsAgedGroup s.changes c.args.place c.args.wildmat.now c.args.since c.aged_group.result) c.spool.ensures
    c.aged_group.ensures
