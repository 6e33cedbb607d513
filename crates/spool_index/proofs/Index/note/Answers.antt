use Rattle.std.proofs.Common.{◌∙◌, ap}
use Rattle.spool_index.specs.Finding.{note_at}
use Rattle.spool_index.specs.View.{IndexView}
use Rattle.spool_index.proofs.Serials.{noted}
use Rattle.spool_index.proofs.Index.note.Goals as goal

pub returns-clause-change : goal.returns-clause-change
returns-clause-change c = λ S is.
    c.note_in.ensures ∙ ap (λ ns. note_at ns c.args.serial) (c.deref.ensures.value ∙ ap (λ (x : IndexView). x.notes) c.self.view_is)
    ∙ noted S c.args.self.now c.args.serial is
