use Rattle.std.proofs.Common.{subst}
use Rattle.program_rules.specs.Ruled.{IsRuledGroup}
use Rattle.spool.specs.View.{SpoolView}
use Rattle.program_changes.proofs.rules.TakingOutByTreatOld.find.Goals as goal

pub returns : goal.returns
returns g c =
    subst (λ (s : SpoolView). IsRuledGroup s.changes c.args.place c.args.self.now.rules.now c.args.now c.ruled_group.result)
    c.spool.ensures c.ruled_group.ensures
