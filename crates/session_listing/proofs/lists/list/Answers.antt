use Rattle.std.proofs.Common.{rules}
use Rattle.session_listing.proofs.lists.list.Goals as goal

pub returns-in-Active : goal.returns-in-Active
returns-in-Active g c = search rules

pub returns-in-Times : goal.returns-in-Times
returns-in-Times g c = search rules

pub returns-in-Newsgroups : goal.returns-in-Newsgroups
returns-in-Newsgroups g c = search rules
