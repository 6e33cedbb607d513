use Rattle.std.proofs.Common.{rules}
use Rattle.session_listing.proofs.listed_groups.is_picked.Goals as goal

pub returns-in-Matching : goal.returns-in-Matching
returns-in-Matching c = search rules
