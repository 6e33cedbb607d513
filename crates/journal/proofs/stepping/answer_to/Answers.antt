use Rattle.std.proofs.Common.{rules}
use Rattle.journal.proofs.stepping.answer_to.Goals as goal

pub returns-in_default-2 : goal.returns-in_default-2
returns-in_default-2 c = search rules
