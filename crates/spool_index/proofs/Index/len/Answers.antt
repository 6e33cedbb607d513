use Rattle.std.proofs.Common.{◌≡◌, length, ap, ◌∙◌, arith}
use Rattle.spool_index.specs.View.{IndexView}
use Rattle.spool_index.proofs.Growing.{notes_count}
use Rattle.spool_index.proofs.Index.len.Goals as goal

pub returns : goal.returns
returns c = λ S is.
    let all : length c.self.inside.notes.items ≡ length S = ap (λ (x : IndexView). length x.notes) c.self.view_is
    ∙ notes_count S c.args.self.now is in
    omega (arith, c.len.ensures, all, c.self.inside.notes.ok)
