-- What a session asks: its turns, and those in the plain server's run of a trace (docs/THEOREM.md).
use Rattle.std.specs.Prelude.{ℕ, ◌==◌, List, [], ◌∷◌, ◌++◌, option_map, if◌then◌else◌}
use Rattle.std.specs.Option.{option_to_list}
use Rattle.model.specs.Spool.{Spool}
use Rattle.model.specs.Stream.{Octets}
use Rattle.model.specs.Service.{news_service}
use Rattle.model.specs.declared.change.Change.{Change}
use Rattle.model.specs.declared.message.Mark.{Mark}
use Rattle.model.specs.declared.message.Message.{Message}
use Rattle.model.specs.declared.message.Message.TheVariants as message
use Rattle.model.specs.declared.session.Awaits.{Awaits}
use Rattle.model.specs.declared.session.Awaits.TheVariants as awaits
use Rattle.model.specs.declared.session.Session.{Session}
use Rattle.synchrony.specs.Server.{Admin, Command, Entry, PlainServer, step, taken}
use Rattle.model_rfc.specs.Commands.{Asked, asked_by, plainly, posted, too_long, transferred}

-- a message of a session: the spool and the session that it finds, and when it comes
pub record Turn : Type 0 where
  pub spool : Spool
  pub session : Session
  pub message : Message
  pub moment : ℕ
  pub mark : Mark

-- what a message asks, where this is awaited
abbrev pub asked_in : Awaits → Message → Asked
asked_in awaits.Line (message.Line text) = asked_by text
asked_in awaits.PostBlock m = plainly posted
asked_in (awaits.IhaveBlock id) m = plainly transferred
asked_in what m = plainly too_long

-- what a turn asks
abbrev pub asked : Turn → Asked
asked turn = asked_in turn.session.awaits turn.message

-- the plain server of news
abbrev pub Server : Type 0
Server = PlainServer Session Change

-- the turn that is made of a session's next message
abbrev pub turn_of : Server → ℕ → ℕ → Mark → Message × Octets → Turn
turn_of server session moment mark next =
    record { spool = server.spool; session = (server.connections session).session; message = next.0; moment = moment; mark = mark }

-- what an entry of the trace is to a session: its turn, or nothing
abbrev pub turn_at : Octets → Server → Entry Change Mark → ℕ → List Turn
turn_at host server (Admin change) number = []
turn_at host server (Command session moment mark) number =
    if number == session then option_to_list (option_map (turn_of server session moment mark) (taken (news_service host) server session))
    else []

-- the turns of a session, in order
abbrev pub turns_of : Octets → Server → List (Entry Change Mark) → ℕ → List Turn
turns_of host server [] number = []
turns_of host server (entry ∷ trace) number =
    turn_at host server entry number ++ turns_of host (step (news_service host) server entry) trace number
