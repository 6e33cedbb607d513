use Rattle.std.proofs.Common.{rules}
use Rattle.session_lookups.proofs.moments.is_since.Goals as goal

pub returns-else-from-le0 : goal.returns-else-from-le0
returns-else-from-le0 c = search rules
