use Rattle.std.proofs.Common.{◌≡◌, ◌++◌, ◌∙◌, ap, subst}
use Rattle.std.specs.Prelude.{IfOk}
use Rattle.model.specs.Answer as answers
use Rattle.model.specs.Replies.{information_follows}
use Rattle.model.specs.Stream.{dot_line, line}
use Rattle.session_lookups.specs.Held.{all_known}
use Rattle.session_replies.specs.Answered.{Answered, answered}
use Rattle.session_listing.specs.Lists.{lines_of}
use Rattle.session_listing.proofs.Listing.{block_listed, last_listed}
use Rattle.session_listing.proofs.lists.list_groups.Goals as goal

pub returns : goal.returns
returns g c =
    let S = g.L.LookUps.changes c.args.spool.now in
    let host = g.L.LookUps.host_of c.args.spool.now in
    let pick = c.pick_of.result in
    let test = answers.is_listed c.args.wildmat.now in
    let items = c.in_ok-push_end.ensures
    ∙ ap (λ os. os ++ dot_line) (c.in_ok-last.ensures.lines
    ∙ ap (λ os. os ++ lines_of pick c.args.show (all_known S)) (c.in_ok-push_heading.ensures
    ∙ ap (λ os. os ++ line information_follows) c.new-reply.ensures.items))
    ∙ block_listed host S pick test c.pick_of.ensures.same c.args.show information_follows in
    let reads = c.in_ok-last.ensures.last ∙ last_listed host S pick test c.pick_of.ensures.same (g.met.L.LookUps.lawful c.args.spool.now) in
    subst (λ (a : Answered). IfOk c.says.result (λ r. r ≡ a)) (λ i. answered (answers.says c.args.session.now (items i)) (reads i))
    c.says.ensures
