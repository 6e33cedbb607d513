use Rattle.std.proofs.Common.{◌≡◌, sym, subst}
use Rattle.std.specs.Prelude.{IfOk, Option}
use Rattle.model.specs.Answer.{groups_here, spool_outcome}
use Rattle.model.specs.Article.{groups_of}
use Rattle.model.specs.Spool.{NewsArticle}
use Rattle.session_lookups.proofs.Standing.{not_found}
use Rattle.session_posting.specs.Outcomes.{closed_among, told}
use Rattle.session_posting.proofs.Telling.{told_id}
use Rattle.session_posting.proofs.filed_groups.filing.Goals as goal

pub returns-in-Some : goal.returns-in-Some
returns-in-Some g c = told_id _ _ _ _ c.in-Some.serial c.in-Some.ensures

pub by_groups-requires : goal.by_groups-requires
by_groups-requires g c = not_found _ c.in-None.ensures

pub returns-in-None : goal.returns-in-None
returns-in-None g c =
    let S = g.L.LookUps.changes c.args.spool.now in
    let text = c.args.article.now in
    subst (λ (o : Option NewsArticle). IfOk c.by_groups.result
    (λ outcome. outcome ≡ told S (spool_outcome o (groups_here S text) (closed_among c.args.closed S (groups_of text)))))
    (sym (not_found _ c.in-None.ensures)) c.by_groups.ensures
