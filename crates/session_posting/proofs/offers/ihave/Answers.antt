use Rattle.std.proofs.Common.{rules}
use Rattle.session_posting.proofs.offers.ihave.Goals as goal

pub returns-then-is_of_host : goal.returns-then-is_of_host
returns-then-is_of_host c = search rules

pub returns-in-Some : goal.returns-in-Some
returns-in-Some c = search rules

pub returns-in_ok-to_vec-in-None : goal.returns-in_ok-to_vec-in-None
returns-in_ok-to_vec-in-None c = search rules
