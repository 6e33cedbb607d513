use Rattle.journal_laws.proofs.Standing.{torn, torn_open}
use Rattle.journal_laws.proofs.Writing.{torn_held}
use Rattle.journal_laws.proofs.torn_homes_are_laid_over.Goals as goal

pub returns-clause-stands : goal.returns-clause-stands
returns-clause-stands c old new label blocks stands same = torn old new label blocks stands same

pub returns-clause-open : goal.returns-clause-open
returns-clause-open c old new label blocks held stands same are = torn_open old new label blocks stands same held are

pub returns-clause-held : goal.returns-clause-held
returns-clause-held c = torn_held
