-- What the names of articles name in later lives.
use Rattle.std.specs.Prelude.{◌≡◌, ℕ, List, Some}
use Rattle.model.specs.News.{service}
use Rattle.model.specs.Spool.{NewsArticle, Spool, by_id, by_number}
use Rattle.model.specs.Stream.{Octets}
use Rattle.model.specs.declared.change.Change.{Change}
use Rattle.model.specs.declared.message.Mark.{Mark}
use Rattle.model_lives.specs.Lives.{AreLives, Life, spool_after}

-- A number of a group that names an article when a life begins names no other one after that life or any later one.
abbrev pub NumbersOutlive : Type 0
NumbersOutlive = (host : Octets) (S : Spool) (lives : List (Life Change Mark)) (g : Octets) (n : ℕ) (a b : NewsArticle)
    → AreLives (service host) S lives → by_number S g n ≡ Some a → by_number (spool_after (service host) S lives) g n ≡ Some b → a ≡ b

-- The article with a message-id when a life begins is the one with that id after it and after all later ones, even if it
-- is in no group any more. So the id is never filed again.
abbrev pub IdsOutlive : Type 0
IdsOutlive = (host : Octets) (S : Spool) (lives : List (Life Change Mark)) (id : Octets) (a : NewsArticle)
    → AreLives (service host) S lives → by_id S id ≡ Some a → by_id (spool_after (service host) S lives) id ≡ Some a
