use Rattle.std.proofs.Common.{ℕ}
use Rattle.program_rules.specs.Ruled.{IsRuledGroup}
use Rattle.kernel_expiring.specs.declared.AgedGroup.{AgedGroup}
use Rattle.volume_store.specs.Saved.{StoreView}
use Rattle.program_changes.proofs.Aged.{stays_so}
use Rattle.program_changes.proofs.rules.tell_by.Goals as goal

pub returns : goal.returns
returns g c =
    let found : StoreView g.row.D.Denot → ℕ → AgedGroup → Type 0 =
    λ at place group. IsRuledGroup at.spool.changes place c.args.rules.now c.args.now group in
    stays_so _ found c.args.store.now c.treat_old.new.volume c.treat_old.result c.treat_old.ensures.treats
