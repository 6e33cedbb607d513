use Rattle.journal_laws.proofs.Epochs.{epoch_or_other, other_closes_all}
use Rattle.journal_laws.proofs.the_other_epoch_closes_all.Goals as goal

pub returns-clause-stands : goal.returns-clause-stands
returns-clause-stands c = epoch_or_other

pub returns-clause-closed : goal.returns-clause-closed
returns-clause-closed c old new label blocks held stands are all carried tears is = other_closes_all old new held are all tears is
