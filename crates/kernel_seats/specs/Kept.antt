-- The invariant of the sessions: each held output is the plain server's reply on a prefix of the spool.
use Rattle.std.specs.Prelude.{◌≡◌, ◌⊎◌, ℕ, ◌+◌, ◌≤◌, ◌<◌, max, false, List, [], ◌∷◌, ◌++◌, length, drop, IsSome, is_none}
use Rattle.std.specs.Option.{option_to_list}
use Rattle.model.specs.Stream.{Octets}
use Rattle.model.specs.Spool.{Spool, first}
use Rattle.model.specs.Answer.{answer, new_session}
use Rattle.model.specs.Lawful.{IsLawfulSession}
use Rattle.model.specs.Reads.{reads}
use Rattle.model.specs.Replies.{greeting}
use Rattle.model.specs.Service.{mode_of}
use Rattle.model.specs.declared.change.Change.{Change}
use Rattle.model.specs.declared.message.Message.{Message}
use Rattle.model.specs.declared.message.Mark.{Mark}
use Rattle.model.specs.declared.session.Answer.{Answer}
use Rattle.model.specs.declared.session.Session.{Session}
use Rattle.kernel_outbox.specs.Queue.{HeldOutput}
use Rattle.kernel_seats.specs.Seats.{Seat}

-- the message that an output answers, and where: the session before it, and the length of the spool before it
pub record Source : Type 0 where
  pub message : Message
  pub moment : ℕ
  pub mark : Mark
  pub session : Session
  pub position : ℕ

-- the plain server's answer at that point
abbrev pub answer_at : Octets → Spool → Source → Answer
answer_at host S o = answer host (first S o.position) o.session o.message o.moment o.mark

abbrev pub reads_at : Octets → Spool → Source → ℕ
reads_at host S o = reads host (first S o.position) o.session o.message o.moment o.mark

abbrev pub made_at : Octets → Spool → Source → List Change
made_at host S o = option_to_list (answer_at host S o).change

-- The held output is the plain server's reply to that message, without its first octets. It depends on what that reply
-- read, or on what the session had read before. The change that it made is the one at that place in the spool.
pub record IsReply (host : Octets) (S : Spool) (before cut : ℕ) (o : Source) (held : HeldOutput) : Type 0 where
  pub position : o.position ≤ length S
  pub awaited : IsSome (mode_of o.session.awaits)
  pub cut_within : cut < length (answer_at host S o).reply
  pub octets : held.octets ≡ drop cut (answer_at host S o).reply
  pub dependency : held.dependency ≡ max before (reads_at host S o)
  pub ends : held.ends ≡ is_none (mode_of (answer_at host S o).next.awaits)
  pub change : first S (o.position + length (made_at host S o)) ≡ first S o.position ++ made_at host S o

-- whole replies, each after the one before it: in the session that the earlier one left, on a spool that is not shorter
abbrev pub AreReplies : Octets → Spool → Session → ℕ → ℕ → List HeldOutput → Session → Type 0
AreReplies host S session before from [] last = session ≡ last
AreReplies host S session before from (held ∷ rest) last =
    (o : Source) × IsReply host S before 0 o held × (o.session ≡ session) × (from ≤ o.position)
    × AreReplies host S (answer_at host S o).next held.dependency (o.position + length (made_at host S o)) rest last

-- the greeting, without its first octets
pub record IsGreeting (host : Octets) (given cut : ℕ) (held : HeldOutput) : Type 0 where
  pub cut_within : cut < length (greeting host)
  pub octets : held.octets ≡ drop cut (greeting host)
  pub dependency : held.dependency ≡ 0
  pub ends : held.ends ≡ false
  pub first_output : given ≡ 0

-- only the first output may be cut; it depends on at least what the last output handed out did, which is kept as `given`
abbrev pub SeatIsKept : Octets → Spool → ℕ → List HeldOutput → Session → Type 0
SeatIsKept host S given [] last = Unit {0}
SeatIsKept host S given (held ∷ rest) last =
    ((cut : ℕ) × IsGreeting host given cut held × AreReplies host S new_session 0 0 rest last)
    ⊎ ((o : Source) × (cut : ℕ) × IsReply host S given cut o held
    × AreReplies host S (answer_at host S o).next held.dependency (o.position + length (made_at host S o)) rest last)

-- a session with nothing held still awaits something: it ends with its last output
abbrev pub StillAwaits : List HeldOutput → Session → Type 0
StillAwaits [] session = IsSome (mode_of session.awaits)
StillAwaits (held ∷ rest) session = Unit {0}

-- the invariant of one session
pub record IsSeat (host : Octets) (S : Spool) (joined : ℕ) (seat : Seat) : Type 0 where
  pub outputs : SeatIsKept host S seat.given seat.held seat.session
  pub awaits : StillAwaits seat.held seat.session
  -- an article that it awaits has no id of the host's own
  pub lawful : IsLawfulSession host seat.session
  pub some : 1 ≤ seat.number
  pub spent : seat.number ≤ joined

-- the numbers of the sessions rise from above this one
abbrev pub RiseFrom : ℕ → List Seat → Type 0
RiseFrom n [] = Unit {0}
RiseFrom n (seat ∷ seats) = (n < seat.number) × RiseFrom seat.number seats
