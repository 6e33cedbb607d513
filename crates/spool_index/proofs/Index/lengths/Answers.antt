use Rattle.std.proofs.Common.{◌∙◌}
use Rattle.model.specs.Spool.{NewsArticle}
use Rattle.spool_index.specs.Kept.{lengths_of}
use Rattle.spool_index.specs.Notes.{lengths_in}
use Rattle.spool_index.proofs.Serials.{each_lengths, said, unsaid}
use Rattle.spool_index.proofs.Index.lengths.Goals as goal

pub returns-in-Some : goal.returns-in-Some
returns-in-Some c = λ S is. c.lengths.ensures
    ∙ said lengths_in (λ (a : NewsArticle). lengths_of a.text) each_lengths S c.args.serial c.in-Some.note.now
    (c.in-Some.ensures.change S is)

pub returns-in-None : goal.returns-in-None
returns-in-None c = λ S is. unsaid (λ (a : NewsArticle). lengths_of a.text) S c.args.serial (c.in-None.ensures.change S is)
