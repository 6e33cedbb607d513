use Rattle.std.proofs.Common.{◌≡◌, length, map}
use Rattle.model.specs.Article.{are_distinct}
use Rattle.text_article.proofs.causes.are_distinct.Given as goal

-- the names so far are distinct from each other and from the rest
abbrev pub invariant-loop-rest : goal.invariant-loop-rest
invariant-loop-rest l = are_distinct (map (λ name. name.now) l.rest) ≡ are_distinct (map (λ name. name.now) l.names)

abbrev pub decreases-loop-rest : goal.decreases-loop-rest
decreases-loop-rest l = length l.rest
