use Rattle.std.proofs.Common.{rules}
use Rattle.session_listing.proofs.lists.newgroups.Goals as goal

pub returns-in-Err : goal.returns-in-Err
returns-in-Err c = search rules
