use Rattle.std.proofs.Common.{subst}
use Rattle.kernel_expiring.specs.Ages.{IsAgedGroup}
use Rattle.model.specs.Spool.{Spool}
use Rattle.kernel_locked.proofs.locked.aged_in.Goals as goal

pub returns-clause-now : goal.returns-clause-now
returns-clause-now c =
    subst (λ (S : Spool). IsAgedGroup S c.args.place c.args.wildmat.now c.args.since c.aged_group.result) c.spool.ensures
    c.aged_group.ensures

pub returns-clause-found : goal.returns-clause-found
returns-clause-found c = record {
  host = c.args.kernel.now.host;
  changes = c.args.kernel.now.spool;
  lawful = c.kept.ensures.cache.lawful;
  is_group = returns-clause-now c;
}
