-- A session as callers of the kernel see it: what it holds, what it gives, and how it is answered.
use Rattle.std.specs.Prelude.{ℕ, ◌-◌, max, Bool, false, not, ◌==◌, if◌then◌else◌, List, [], ◌∷◌, ◌++◌, map, filter, find, length, Option}
use Rattle.std.specs.Prelude.{Some, None, is_none}
use Rattle.model.specs.Stream.{Octets}
use Rattle.model.specs.Spool.{Spool}
use Rattle.model.specs.Answer.{answer, new_session}
use Rattle.model.specs.Reads.{reads}
use Rattle.model.specs.Replies.{greeting}
use Rattle.model.specs.Service.{mode_of}
use Rattle.model.specs.declared.message.Message.{Message}
use Rattle.model.specs.declared.message.Mark.{Mark}
use Rattle.model.specs.declared.session.Session.{Session}
use Rattle.kernel_outbox.specs.Queue.{HeldOutput, Giving, ReadyEntry, last_dependency, give, entry_of, octets_in}

-- a session that exists
pub record Seat : Type 0 where
  pub number : ℕ
  pub session : Session
  -- the dependency of its last output that was handed out whole, 0 at first
  pub given : ℕ
  pub held : List HeldOutput

-- ---- a session begins, and is answered

-- a session that has just begun holds its greeting, which depends on nothing
abbrev pub new_seat : Octets → ℕ → Seat
new_seat host number = record {
  number = number;
  session = new_session;
  given = 0;
  held = record { octets = greeting host; dependency = 0; ends = false } ∷ [];
}

-- the session with one more reply
abbrev pub answered_by : Octets → Spool → Message → ℕ → Mark → Seat → Seat
answered_by host S m t mark seat =
    record {
      number = seat.number;
      session = (answer host S seat.session m t mark).next;
      given = seat.given;
      held = seat.held ++ record {
        octets = (answer host S seat.session m t mark).reply;
        dependency = max (last_dependency seat.given seat.held) (reads host S seat.session m t mark);
        ends = is_none (mode_of (answer host S seat.session m t mark).next.awaits);
      } ∷ [];
    }

abbrev pub with_seat : List Seat → Seat → List Seat
with_seat seats seat = map (λ (other : Seat). if other.number == seat.number then seat else other) seats

-- ---- what is ready is given

-- the entries of a release, and the sessions after it
pub record Ready : Type 0 where
  pub entries : List ReadyEntry
  pub seats : List Seat

-- a session after what it gave
abbrev pub seat_given : Seat → Giving → Seat
seat_given seat g = record { number = seat.number; session = seat.session; given = g.given; held = g.held }

-- a session's entry, and the session, unless it ended
abbrev pub given_by : Seat → Giving → Ready → Ready
given_by seat g later = record {
  entries = entry_of seat.number g ++ later.entries;
  seats = if g.ended then later.seats else seat_given seat g ∷ later.seats;
}

-- what a session gives into a buffer that has these entries, with room for 65,536 octets
abbrev pub given_of : ℕ → List ReadyEntry → Seat → Giving
given_of p entries seat = give p (65536 - octets_in entries) seat.given seat.held

-- the same for all sessions in rising number
abbrev pub ready : ℕ → ℕ → List Seat → Ready
ready p room [] = record { entries = []; seats = [] }
ready p room (seat ∷ seats) = given_by seat (give p room seat.given seat.held) (ready p (give p room seat.given seat.held).room seats)

-- what one session gives after these entries, and the sessions afterwards; if it does not exist, nothing happens
abbrev pub ready_by : ℕ → List ReadyEntry → List Seat → Option Seat → Ready
ready_by p entries seats None = record { entries = []; seats = seats }
ready_by p entries seats (Some seat) = record {
  entries = entry_of seat.number (given_of p entries seat);
  seats = if (given_of p entries seat).ended then filter (λ (other : Seat). not (other.number == seat.number)) seats else with_seat seats
      (seat_given seat (given_of p entries seat));
}

abbrev pub ready_of : ℕ → List ReadyEntry → ℕ → List Seat → Ready
ready_of p entries number seats = ready_by p entries seats (find (λ (seat : Seat). seat.number == number) seats)

-- whether a session exists and holds outputs
abbrev pub holds : Option Seat → Bool
holds None = false
holds (Some seat) = not (length seat.held == 0)
