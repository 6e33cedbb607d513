use Rattle.std.proofs.Common.{rules}
use Rattle.session_reading.proofs.ranges.numbers_in.Goals as goal

pub returns-in-Some-clause-first : goal.returns-in-Some-clause-first
returns-in-Some-clause-first c = search rules

pub returns-in-Some-clause-from : goal.returns-in-Some-clause-from
returns-in-Some-clause-from c = search rules

pub returns-in-None-clause-first : goal.returns-in-None-clause-first
returns-in-None-clause-first c = search rules

pub returns-in-None-clause-from : goal.returns-in-None-clause-from
returns-in-None-clause-from c = search rules
