use Rattle.std.proofs.Common.{ℕ}
use Rattle.program_rules.specs.Ruled.{IsRuledGroup}
use Rattle.kernel_expiring.specs.declared.AgedGroup.{AgedGroup}
use Rattle.volume_store.specs.Saved.{StoreView}
use Rattle.program_changes.proofs.Aged.{goes}
use Rattle.program_changes.proofs.rules.expire_by.Goals as goal

pub returns-clause-goes_on : goal.returns-clause-goes_on
returns-clause-goes_on g c =
    let found : StoreView g.row.D.Denot → ℕ → AgedGroup → Type 0 =
    λ at place group. IsRuledGroup at.spool.changes place c.args.rules.now c.args.now group in
    goes _ g.D.Disk.device found c.args.store.now c.treat_old.new.volume c.treat_old.result c.treat_old.ensures.treats
