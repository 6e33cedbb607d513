use Rattle.std.proofs.Common.{ℕ}
use Rattle.kernel_expiring.specs.Ages.{IsAgedGroup}
use Rattle.kernel_expiring.specs.declared.AgedGroup.{AgedGroup}
use Rattle.volume_store.specs.Saved.{StoreView}
use Rattle.program_changes.proofs.Aged.{stays_so}
use Rattle.program_changes.proofs.ages.tell_old.Goals as goal

pub returns : goal.returns
returns g c =
    let found : StoreView g.row.D.Denot → ℕ → AgedGroup → Type 0 =
    λ now place group. IsAgedGroup now.spool.changes place c.args.wildmat.now c.args.since group in
    stays_so _ found c.args.store.now c.treat_old.new.volume c.treat_old.result c.treat_old.ensures.treats
