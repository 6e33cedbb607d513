use Rattle.std.proofs.Common.{◌∙◌}
use Rattle.model.specs.Spool.{NewsArticle}
use Rattle.spool_index.specs.Notes.{moment_in}
use Rattle.spool_index.proofs.Serials.{each_moment, said, unsaid}
use Rattle.spool_index.proofs.Index.moment.Goals as goal

pub returns-in-Some : goal.returns-in-Some
returns-in-Some c = λ S is. c.moment.ensures
    ∙ said moment_in (λ (a : NewsArticle). a.moment) each_moment S c.args.serial c.in-Some.note.now (c.in-Some.ensures.change S is)

pub returns-in-None : goal.returns-in-None
returns-in-None c = λ S is. unsaid (λ (a : NewsArticle). a.moment) S c.args.serial (c.in-None.ensures.change S is)
