use Rattle.text_rnews.proofs.Fronts.{member_stays, cause_stays}
use Rattle.text_rnews.proofs.ReadBack.{read_back, read_as_one}
use Rattle.text_rnews.proofs.laws.batches_are_read_back.Goals as goal

pub returns-clause-back : goal.returns-clause-back
returns-clause-back c = read_back

pub returns-clause-one : goal.returns-clause-one
returns-clause-one c = read_as_one

pub returns-clause-member : goal.returns-clause-member
returns-clause-member c = member_stays

pub returns-clause-cause : goal.returns-clause-cause
returns-clause-cause c = cause_stays
