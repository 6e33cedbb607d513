use Rattle.std.proofs.Common.{arith}
use Rattle.std.proofs.lemmas.Grind.{common_steps}
use Rattle.session_listing.proofs.listed_groups.push_rest.Goals as goal

pub returns-in_ok-push_spaced-in-Times : goal.returns-in_ok-push_spaced-in-Times
returns-in_ok-push_spaced-in-Times c = grind (arith, common_steps)

pub returns-in_ok-extend_from_slice-in-Newsgroups : goal.returns-in_ok-extend_from_slice-in-Newsgroups
returns-in_ok-extend_from_slice-in-Newsgroups c = grind (arith, common_steps)

pub returns-in_ok-push_spaced-in-Active-2 : goal.returns-in_ok-push_spaced-in-Active-2
returns-in_ok-push_spaced-in-Active-2 c = grind (arith, common_steps)
