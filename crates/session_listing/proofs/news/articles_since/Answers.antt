use Rattle.std.proofs.Common.{◌≡◌, ◌++◌, ◌∙◌, ap, subst, map, w64, to_z, of_z}
use Rattle.std.specs.Prelude.{IfOk, filter, ◌&&◌}
use Rattle.std.specs.List.{list_any}
use Rattle.std.proofs.lemmas.Int.{to_z-of_z}
use Rattle.model.specs.Answer as answers
use Rattle.model.specs.Answer.{id_of, is_since}
use Rattle.model.specs.Names.{wildmat_matches}
use Rattle.model.specs.Replies.{articles_follow, block}
use Rattle.model.specs.Spool.{NewsArticle, articles, articles_now}
use Rattle.model.specs.Stream.{dot_line, line}
use Rattle.session_replies.specs.Answered.{Answered, answered}
use Rattle.session_lookups.specs.News.{new_lines}
use Rattle.session_listing.proofs.Newest.{block_new}
use Rattle.session_listing.proofs.news.articles_since.Goals as goal

pub returns : goal.returns
returns g c =
    let S = g.L.LookUps.changes c.args.spool.now in
    let wildmat = c.args.wildmat.now in
    let from = to_z w64 (of_z w64 c.args.from) in
    let same : from ≡ c.args.from = to_z-of_z w64 c.args.from c.ranges.from in
    let items = c.in_ok-push_end.ensures
    ∙ ap (λ os. os ++ dot_line) (c.in_ok-push_new_ids.ensures
    ∙ ap (λ os. os ++ new_lines S wildmat from (articles S)) (c.in_ok-push_heading.ensures
    ∙ ap (λ os. os ++ line articles_follow) c.new-reply.ensures.items))
    ∙ block_new (g.L.LookUps.host_of c.args.spool.now) S wildmat from articles_follow (g.met.L.LookUps.lawful c.args.spool.now)
    ∙ ap (λ moment. block articles_follow
    (map id_of (filter (λ (a : NewsArticle). list_any (wildmat_matches wildmat) a.groups && is_since moment a.moment) (articles_now S))))
    same in
    subst (λ (a : Answered). IfOk c.says.result (λ r. r ≡ a)) (λ i. answered (answers.says c.args.session.now (items i)) (c.len.ensures i))
    c.says.ensures
