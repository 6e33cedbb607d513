use Rattle.std.proofs.Common.{List, ℕ, ap, ◌∙◌}
use Rattle.model.specs.Indexed.{value_of}
use Rattle.spool_groups.proofs.Places.{found_plain}
use Rattle.spool_groups.proofs.keys.Keys.get.Goals as goal

pub returns : goal.returns
returns c =
    c.copied.ensures ∙ c.get.ensures.value ∙ found_plain (λ k. k.items) c.args.key.now c.self.inside.numbers.entries
    ∙ ap (λ (numbers : List (List ℕ × ℕ)). value_of numbers c.args.key.now) c.self.view_is
