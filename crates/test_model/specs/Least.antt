-- No smaller serial would do. Take any serial such that the answer is the same over each prefix of the spool that
-- contains it: that serial is at least the one that the message reads.
use Rattle.std.specs.Prelude.{◌≡◌, ℕ, ◌≤◌, length, Some, codes}
use Rattle.model.specs.Stream.{Octets}
use Rattle.model.specs.Spool.{Spool, first}
use Rattle.model.specs.Answer.{answer, new_session}
use Rattle.test_model.specs.Expiry.{expired}
use Rattle.test_model.specs.Texts.{moment, news_example, two}
use Rattle.model.specs.declared.message.Message.TheVariants as message
use Rattle.model.specs.declared.message.Mark.TheVariants as mark
use Rattle.model.specs.declared.session.Session.{Session}

abbrev pub ComesFrom : Spool → Session → Octets → ℕ → Type 0
ComesFrom S x text k = answer news_example (first S k) x (message.Line text) moment mark.Served ≡ answer news_example S x
    (message.Line text) moment mark.Served

abbrev pub MustRead : Spool → Session → Octets → ℕ → Type 0
MustRead S x text least = (r : ℕ) → ((k : ℕ) → r ≤ k → k ≤ length S → ComesFrom S x text k) → least ≤ r

-- the group x.a is selected, with its first article
abbrev pub selected : Session
selected = record new_session { group = Some (codes "x.a"); current = Some 1 }

-- an article that is gone, a number below the lowest, and a current number below it: the expiry
abbrev pub GoneById : Type 0
GoneById = MustRead expired new_session (codes "STAT <1@a.example>") 5

abbrev pub BelowByNumber : Type 0
BelowByNumber = MustRead expired selected (codes "STAT 1") 5

abbrev pub BelowCurrent : Type 0
BelowCurrent = MustRead expired selected (codes "STAT") 5

-- an article by number: its own serial
abbrev pub FoundByNumber : Type 0
FoundByNumber = MustRead two selected (codes "STAT 2") 3
