use Rattle.model.specs.declared.change.Change.TheVariants.{Article}
use Rattle.spool.proofs.Sound.{may_follow}
use Rattle.spool.proofs.filed_articles.SpoolChangeSpool.file.Goals as goal

pub add_article-requires : goal.add_article-requires
add_article-requires c =
    let s = c.args.self.now in
    may_follow s.host s.changes (Article (record { text = c.args.article.now; envelope = c.args.envelope.now }))
    c.requires
