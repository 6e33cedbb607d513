use Rattle.journal_laws.proofs.Gates.{closed_open, closed_or_not}
use Rattle.journal_laws.proofs.the_oldest_gate_may_be_closed.Goals as goal

pub returns-clause-stands : goal.returns-clause-stands
returns-clause-stands c = closed_or_not

pub returns-clause-open : goal.returns-clause-open
returns-clause-open c = closed_open
