-- Which articles are new, and their lines.
use Rattle.std.specs.Prelude.{Bool, ◌&&◌, ℤ, List, filter, flat_map}
use Rattle.std.specs.List.{list_any}
use Rattle.model.specs.Answer.{is_since}
use Rattle.model.specs.Article.{id}
use Rattle.model.specs.Names.{wildmat_matches}
use Rattle.model.specs.Spool.{Spool, NewsArticle, as_it_is}
use Rattle.model.specs.Stream.{Octets, line}

-- the article is in a group that the wildmat matches, and was filed at the moment or later
abbrev pub is_new : Spool → Octets → ℤ → NewsArticle → Bool
is_new S w from a = list_any (wildmat_matches w) (as_it_is S a).groups && is_since from a.moment

-- a line for each new article, its message-id
abbrev pub new_lines : Spool → Octets → ℤ → List NewsArticle → Octets
new_lines S w from filed = flat_map (λ a. line (id a.text)) (filter (is_new S w from) filed)
