use Rattle.std.proofs.Common.{◌∙◌}
use Rattle.model.specs.Article.{id}
use Rattle.model.specs.Spool.{NewsArticle}
use Rattle.spool_index.specs.Notes.{id_in}
use Rattle.spool_index.proofs.Serials.{each_id, said, unsaid}
use Rattle.spool_index.proofs.Index.id.Goals as goal

pub returns-in-Some : goal.returns-in-Some
returns-in-Some c = λ S is. c.id.ensures
    ∙ said id_in (λ (a : NewsArticle). id a.text) each_id S c.args.serial c.in-Some.note.now (c.in-Some.ensures.change S is)

pub returns-in-None : goal.returns-in-None
returns-in-None c = λ S is. unsaid (λ (a : NewsArticle). id a.text) S c.args.serial (c.in-None.ensures.change S is)
