use Rattle.std.proofs.Common.{◌≡◌, ◌++◌, refl, ◌∙◌, ap, subst, map, w64, to_z, of_z}
use Rattle.std.specs.Prelude.{IfOk, None, filter}
use Rattle.std.proofs.lemmas.Int.{to_z-of_z}
use Rattle.model.specs.Answer as answers
use Rattle.model.specs.Answer.{active_line, is_since}
use Rattle.model.specs.Replies.{block, groups_follow}
use Rattle.model.specs.Spool.{Listed, listed}
use Rattle.model.specs.Stream.{dot_line, line}
use Rattle.session_lookups.specs.Held.{all_known}
use Rattle.session_replies.specs.Answered.{Answered, answered}
use Rattle.session_listing.specs.Lists.{lines_of}
use Rattle.session_listing.specs.declared.listed_groups.Choice.TheVariants.{Since}
use Rattle.session_listing.specs.declared.listed_groups.Show.TheVariants.{Active}
use Rattle.session_listing.proofs.Listing.{block_since}
use Rattle.session_listing.proofs.lists.groups_since.Goals as goal

pub returns : goal.returns
returns g c =
    let S = g.L.LookUps.changes c.args.spool.now in
    let from = to_z w64 (of_z w64 c.args.from) in
    let same : from ≡ c.args.from = to_z-of_z w64 c.args.from c.ranges.from in
    let items = c.in_ok-push_end.ensures
    ∙ ap (λ os. os ++ dot_line) (c.in_ok-push_groups.ensures.lines
    ∙ ap (λ os. os ++ lines_of (Since from) Active (all_known S)) (c.in_ok-push_heading.ensures
    ∙ ap (λ os. os ++ line groups_follow) c.new-reply.ensures.items))
    ∙ block_since S (Since from) from (λ group. refl) Active groups_follow
    ∙ ap (λ moment. block groups_follow
    (map active_line (filter (λ (l : Listed). is_since moment l.group.moment) (listed S (answers.is_listed None))))) same in
    subst (λ (a : Answered). IfOk c.says.result (λ r. r ≡ a)) (λ i. answered (answers.says c.args.session.now (items i)) (c.len.ensures i))
    c.says.ensures
