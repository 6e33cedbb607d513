use Rattle.std.proofs.Common.{List, ℕ, ap, ◌∙◌, cond}
use Rattle.std.specs.Prelude.{Some, bytes_eq}
use Rattle.model.specs.Indexed.{value_of}
use Rattle.spool_groups.proofs.Places.{found_inserted, plain}
use Rattle.spool_groups.proofs.keys.Keys.insert.Goals as goal

pub returns-clause-ok : goal.returns-clause-ok
returns-clause-ok c = λ q.
    ap (λ es. value_of (plain (λ k. k.items) es) q) c.in-Ok.ensures.entries
    ∙ found_inserted (λ k. k.items) q c.in_ok-key.key c.args.number c.self.inside.numbers.entries
    ∙ ap (λ (t : List ℕ). cond (bytes_eq q t) (Some c.args.number) (value_of (plain (λ k. k.items) c.self.inside.numbers.entries) q))
    c.in_ok-key.ensures.items
    ∙ ap (λ (numbers : List (List ℕ × ℕ)). cond (bytes_eq q c.args.key.now) (Some c.args.number) (value_of numbers q)) c.self.view_is
