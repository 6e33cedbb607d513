use Rattle.std.proofs.Common.{◌≡◌, ◌++◌, length, map}
use Rattle.model.specs.Names.{parts}
use Rattle.model.specs.Article.{trimmed}
use Rattle.text_article.proofs.causes.groups_in.Given as goal

-- the groups so far, and those of the rest
abbrev pub invariant-loop-end : goal.invariant-loop-end
invariant-loop-end l = map (λ group. group.now) l.groups.items ++ map trimmed (parts 44 l.rest) ≡ map trimmed (parts 44 l.content)

abbrev pub decreases-loop-end : goal.decreases-loop-end
decreases-loop-end l = length l.rest
