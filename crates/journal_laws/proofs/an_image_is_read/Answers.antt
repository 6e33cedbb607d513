use Rattle.journal_laws.proofs.Sorting.{found_open}
use Rattle.journal_laws.proofs.Whole.{stands_length, stands_whole}
use Rattle.journal_laws.proofs.an_image_is_read.Goals as goal

pub returns-clause-count : goal.returns-clause-count
returns-clause-count c = stands_length

pub returns-clause-whole : goal.returns-clause-whole
returns-clause-whole c = stands_whole

pub returns-clause-open : goal.returns-clause-open
returns-clause-open c = found_open
