use Rattle.std.proofs.Common.{◌≡◌, ◌++◌, length, map}
use Rattle.model.specs.Article.{fields}
use Rattle.text_fields.proofs.fields.push_fields.Given as goal

-- the fields so far, and those of the rest
abbrev pub invariant-loop-rest : goal.invariant-loop-rest
invariant-loop-rest l =
    map (λ field. field.now) l.fields.items ++ fields l.rest ≡ map (λ field. field.now) l.fn.fields.items ++ fields l.text

abbrev pub decreases-loop-rest : goal.decreases-loop-rest
decreases-loop-rest l = length l.rest
