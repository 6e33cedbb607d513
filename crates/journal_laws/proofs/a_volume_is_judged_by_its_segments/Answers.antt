use Rattle.journal_laws.proofs.Judging.{apart, stands_where}
use Rattle.journal_laws.proofs.a_volume_is_judged_by_its_segments.Goals as goal

pub returns-clause-apart : goal.returns-clause-apart
returns-clause-apart c = apart

pub returns-clause-stands : goal.returns-clause-stands
returns-clause-stands c = stands_where
