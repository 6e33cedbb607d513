use Rattle.std.proofs.Common.{sym, ◌∙◌, ap, drop}
use Rattle.std.proofs.lemmas.List.{take_rest}
use Rattle.text_rnews.specs.Batch.{first}
use Rattle.text_rnews.proofs.Fronts.{first-bound}
use Rattle.text_rnews.proofs.reader.BatchReader.next.Goals as goal

pub returns-in-Ok-None-clause-bound : goal.returns-in-Ok-None-clause-bound
returns-in-Ok-None-clause-bound c =
    let wanted = rw c.in-Ok-None.field-0-is at c.in-Ok-None.ensures.found in
    let slice = take_rest c.deref.result.now c.self.inside.start ∙ ap (drop c.self.inside.start) c.deref.ensures.value in
    first-bound c.args.self.now.unread.rest (ap first (ap (λ held. held.unread.rest) (sym c.self.view_is) ∙ sym slice) ∙ wanted)
