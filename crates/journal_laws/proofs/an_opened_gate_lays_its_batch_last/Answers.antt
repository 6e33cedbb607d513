use Rattle.journal_laws.proofs.Gates.{opened_open, opened_or_not}
use Rattle.journal_laws.proofs.an_opened_gate_lays_its_batch_last.Goals as goal

pub returns-clause-stands : goal.returns-clause-stands
returns-clause-stands c = opened_or_not

pub returns-clause-open : goal.returns-clause-open
returns-clause-open c = opened_open
