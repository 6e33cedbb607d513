use Rattle.std.proofs.Common.{rules}
use Rattle.session_posting.proofs.filed_groups.is_closed.Goals as goal

pub returns-in-Some : goal.returns-in-Some
returns-in-Some c = search rules
