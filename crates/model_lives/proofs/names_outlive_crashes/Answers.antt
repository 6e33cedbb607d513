use Rattle.model_lives.proofs.Outliving.{ids_outlive, numbers_outlive}
use Rattle.model_lives.proofs.names_outlive_crashes.Goals as goal

pub returns-clause-numbers : goal.returns-clause-numbers
returns-clause-numbers c = numbers_outlive c.numbers_stay.ensures.one

pub returns-clause-ids : goal.returns-clause-ids
returns-clause-ids c = ids_outlive c.expiry_is_for_good.ensures.ids
