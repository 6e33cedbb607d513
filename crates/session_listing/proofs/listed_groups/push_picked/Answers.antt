use Rattle.std.proofs.Common.{rules}
use Rattle.session_listing.proofs.listed_groups.push_picked.Goals as goal

pub returns-then-not-is_picked-clause-last : goal.returns-then-not-is_picked-clause-last
returns-then-not-is_picked-clause-last c = search rules

pub returns-clause-last : goal.returns-clause-last
returns-clause-last c = search rules
