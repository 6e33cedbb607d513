-- A session as it is kept, with replies whose lines aren't made yet. Callers see it with its lines made.
use Rattle.std.specs.Prelude.{ℕ, ◌<◌, max, false, List, [], ◌∷◌, ◌++◌, map, All, is_none}
use Rattle.model.specs.Stream.{Octets}
use Rattle.model.specs.Spool.{Spool}
use Rattle.model.specs.Answer.{answer, new_session}
use Rattle.model.specs.Reads.{reads}
use Rattle.model.specs.Replies.{greeting}
use Rattle.model.specs.Service.{mode_of}
use Rattle.model.specs.declared.message.Message.{Message}
use Rattle.model.specs.declared.message.Mark.{Mark}
use Rattle.model.specs.declared.session.Session.{Session}
use Rattle.kernel_outbox.specs.Lines.{AllAreKept, HeldReply, Reply, last_depends, outputs_of, plain}
use Rattle.kernel_outbox.specs.declared.made_lines.Lines.{Lines}
use Rattle.kernel_seats.specs.Seats.{Seat}

pub record LinedSeat : Type 0 where
  pub number : ℕ
  pub session : Session
  -- the dependency of its last output that was handed out whole, 0 at first
  pub given : ℕ
  pub held : List HeldReply

-- the session with its lines made
abbrev pub seen : (Lines → Octets) → LinedSeat → Seat
seen made seat = record { number = seat.number; session = seat.session; given = seat.given; held = outputs_of made seat.held }

abbrev pub all_seen : (Lines → Octets) → List LinedSeat → List Seat
all_seen made seats = map (seen made) seats

-- a source has the lines that the session holds
abbrev pub SeatIsLined : (Lines → Type 0) → LinedSeat → Type 0
SeatIsLined keeps seat = AllAreKept keeps seat.held

abbrev pub AllAreLined : (Lines → Type 0) → List LinedSeat → Type 0
AllAreLined keeps seats = All (SeatIsLined keeps) seats

-- the numbers of the sessions rise from above this one
abbrev pub RiseAbove : ℕ → List LinedSeat → Type 0
RiseAbove n [] = Unit {0}
RiseAbove n (seat ∷ seats) = (n < seat.number) × RiseAbove seat.number seats

-- a session that has just begun holds its greeting, which depends on nothing
abbrev pub begun : Octets → ℕ → LinedSeat
begun host number = record {
  number = number;
  session = new_session;
  given = 0;
  held = record { reply = plain (greeting host); dependency = 0; ends = false } ∷ [];
}

-- the session with this reply more, as it goes on after the answer
abbrev pub answered_with : Reply → Octets → Spool → Message → ℕ → Mark → LinedSeat → LinedSeat
answered_with reply host S m t mark seat =
    record {
      number = seat.number;
      session = (answer host S seat.session m t mark).next;
      given = seat.given;
      held = seat.held ++ record {
        reply = reply;
        dependency = max (last_depends seat.given seat.held) (reads host S seat.session m t mark);
        ends = is_none (mode_of (answer host S seat.session m t mark).next.awaits);
      } ∷ [];
    }
