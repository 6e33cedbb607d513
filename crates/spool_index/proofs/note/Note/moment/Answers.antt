use Rattle.std.proofs.Common.{rules, ap, ◌∙◌, Some}
use Rattle.spool_index.proofs.note.Note.moment.Goals as goal

pub returns-in-Article : goal.returns-in-Article
returns-in-Article c = ap Some c.seconds.ensures.value ∙ search rules
