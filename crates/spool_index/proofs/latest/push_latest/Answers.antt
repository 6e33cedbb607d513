use Rattle.std.proofs.Common.{◌∙◌, sym, ap, subst, List, ℕ, ◌++◌, ◌∷◌, []}
use Rattle.std.specs.Prelude.{Option, slice_get, unwrap_or, length, ◌-◌}
use Rattle.spool_index.specs.Latest.{AreLatest}
use Rattle.spool_index.proofs.Moments.{latest_later}
use Rattle.spool_index.proofs.latest.push_latest.Goals as goal

pub returns : goal.returns
returns c = λ notes latest.
    subst (λ (ms : List ℕ). AreLatest ms (notes ++ c.args.note.now ∷ [])) (sym c.in-Ok.ensures.items)
    (latest_later c.args.latest.now.items notes c.args.note.now c.unwrap_or-before.result c.unwrap_or.result c.max-moment.result
    (c.unwrap_or-before.ensures ∙ ap (λ (o : Option ℕ). unwrap_or o 0) (c.copied.ensures ∙ c.last.ensures.value
    ∙ ap (λ (ms : List ℕ). slice_get ms (length ms - 1)) c.deref.ensures.value))
    (c.unwrap_or.ensures ∙ ap (λ (o : Option ℕ). unwrap_or o 0) c.moment.ensures)
    c.max-moment.ensures latest)
