use Rattle.std.proofs.Common.{List, ℕ, ap, ◌∙◌, cond}
use Rattle.std.specs.Prelude.{Some, bytes_eq}
use Rattle.model.specs.Indexed.{value_of}
use Rattle.spool_groups.proofs.Places.{found_inserted, plain}
use Rattle.spool_reading.proofs.inodes.Inodes.insert.Goals as goal

pub returns : goal.returns
returns c = λ q.
    ap (λ es. value_of (plain (λ k. k.items) es) q) c.in-Ok.ensures.entries
    ∙ found_inserted (λ k. k.items) q c.in_ok-name.name c.args.at c.self.inside.numbers.entries
    ∙ ap (λ (t : List ℕ). cond (bytes_eq q t) (Some c.args.at) (value_of (plain (λ k. k.items) c.self.inside.numbers.entries) q))
    c.in_ok-name.ensures.items
    ∙ ap (λ (numbers : List (List ℕ × ℕ)). cond (bytes_eq q c.args.name.now) (Some c.args.at) (value_of numbers q)) c.self.view_is
