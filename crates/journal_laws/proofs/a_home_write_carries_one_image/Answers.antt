use Rattle.journal_laws.proofs.Carrying.{all_home, one_home}
use Rattle.journal_laws.proofs.a_home_write_carries_one_image.Goals as goal

pub returns-clause-one : goal.returns-clause-one
returns-clause-one c = one_home

pub returns-clause-all : goal.returns-clause-all
returns-clause-all c = all_home
