use Rattle.std.proofs.Common.{◌∙◌, ap, ◌-◌}
use Rattle.std.specs.Prelude.{Some, is_some}
use Rattle.volume_renewing.proofs.Changes.{article_left, carried_at, left_at}
use Rattle.volume_renewing.proofs.left.left_of.Goals as goal

pub left_of_article-requires : goal.left_of_article-requires
left_of_article-requires c =
    carried_at c.args.old.now (c.args.serial - 1) c.in-Article.filing (c.in_ok-change.ensures ∙ ap Some c.in-Article.is)

pub returns-in-Group : goal.returns-in-Group
returns-in-Group c =
    left_at c.args.old.now.changes c.args.serial c.requires.from _ (c.in_ok-change.ensures ∙ ap Some c.in-Group.is)

pub returns-in_ok-left_of_article-in-Article : goal.returns-in_ok-left_of_article-in-Article
returns-in_ok-left_of_article-in-Article c =
    article_left c.args.old.now.changes c.args.serial c.requires.from c.in-Article.filing c.in_ok-left_of_article-in-Article.field-0
    c.is_some-is_gone.result (c.in_ok-change.ensures ∙ ap Some c.in-Article.is)
    (c.is_some-is_gone.ensures ∙ ap is_some c.gone_at.ensures) c.in_ok-left_of_article-in-Article.ensures

pub returns-in-Expire : goal.returns-in-Expire
returns-in-Expire c =
    left_at c.args.old.now.changes c.args.serial c.requires.from _ (c.in_ok-change.ensures ∙ ap Some c.in-Expire.is)
