-- The marks of a trace, as a server gives them whose disk may be full, and which may be stopped.
use Rattle.std.specs.Prelude.{◌≡◌, ℕ, ◌<◌, true, List, [], ◌∷◌, Some, is_some}
use Rattle.model.specs.Answer.{answer, is_long}
use Rattle.model.specs.Calendar.{moment_limit}
use Rattle.model.specs.Service.{news_service}
use Rattle.model.specs.Spool.{Spool}
use Rattle.model.specs.Stream.{Octets}
use Rattle.model.specs.declared.change.Change.{Change}
use Rattle.model.specs.declared.message.Mark.{Mark}
use Rattle.model.specs.declared.message.Mark.TheVariants as mark
use Rattle.model.specs.declared.message.Message.{Message}
use Rattle.model.specs.declared.session.Session.{Session}
use Rattle.synchrony.specs.Server.{Admin, Command, Entry, step, taken}
use Rattle.model_rfc.specs.Serving.{Server}

-- a message is marked Long only where it is an article that is too long with its serial, and Full only where its answer would make a change
pub record MayMark (host : Octets) (S : Spool) (x : Session) (m : Message) (t : ℕ) (which : Mark) : Type 0 where
  pub long : which ≡ mark.Long → is_long host S x m ≡ true
  pub full : which ≡ mark.Full → is_some (answer host S x m t mark.Served).change ≡ true

-- an entry so marks the message that it finds, and its moment is before the year 10000
abbrev pub IsMarked : Octets → Server → Entry Change Mark → Type 0
IsMarked host server (Admin change) = Unit {0}
IsMarked host server (Command session moment which) =
    (moment < moment_limit) × ((next : Message × Octets) → taken (news_service host) server session ≡ Some next →
    MayMark host server.spool (server.connections session).session next.0 moment which)

-- and so does each entry of a trace
abbrev pub EachIsMarked : Octets → Server → List (Entry Change Mark) → Type 0
EachIsMarked host server [] = Unit {0}
EachIsMarked host server (entry ∷ trace) = IsMarked host server entry × EachIsMarked host (step (news_service host) server entry) trace
