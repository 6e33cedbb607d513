-- The kernel together with the plain server: what each session sent and was sent since the opening, the trace, and what
-- ties the two.
use Rattle.std.specs.Prelude.{◌≡◌, ℕ, zero, suc, ◌≤◌, Bool, false, List, [], ◌∷◌, ◌++◌, length, take, map, slice_get, slice_set, Option}
use Rattle.std.specs.Prelude.{Some, None, is_none, unwrap_or}
use Rattle.std.specs.List.{concat}
use Rattle.model.specs.Stream.{Octets}
use Rattle.model.specs.Spool.{Spool}
use Rattle.model.specs.News.{service, greeting, new_session, mode_of}
use Rattle.model.specs.declared.change.Change.{Change}
use Rattle.model.specs.declared.message.Message.{Message}
use Rattle.model.specs.declared.message.Mark.{Mark}
use Rattle.model.specs.declared.session.Session.{Session}
use Rattle.kernel_outbox.specs.Queue.{HeldOutput, ReadyEntry, last_dependency}
use Rattle.kernel.specs.Kernel.{KernelView, seat_of}
use Rattle.kernel_seats.specs.Seats.{Seat}
use Rattle.synchrony.specs.Server.{Entry, Connection, PlainServer, opened, sync, taken}
use Rattle.synchrony.specs.Dependency.{Output, Account, greatest, account_of, octets_of}
use Rattle.synchrony.specs.Progress.{EachFindsMessage, unreleased}
use Rattle.synchrony.specs.Synchrony.{IsReleased}

abbrev pub Trace : Type 0
Trace = List (Entry Change Mark)

-- for a session: the octets that arrived, those that were released to it, and whether it left
pub record Sent : Type 0 where
  pub arrived : Octets
  pub released : Octets
  pub left : Bool

pub record TracedView : Type 0 where
  pub kernel : KernelView
  -- the number of changes at the opening
  pub first : ℕ
  -- one entry for each session that ever joined, from number 1 on
  pub sessions : List Sent
  pub trace : Trace
  -- what the last release handed out
  pub ready : List ReadyEntry

-- ---- look-ups

-- for a session that never joined, nothing arrived and nothing was released
abbrev pub nobody : Sent
nobody = record { arrived = []; released = []; left = false }

-- sessions are numbered from 1
abbrev pub numbered : {A : Type 0} → List A → ℕ → Option A
numbered xs zero = None
numbered xs (suc k) = slice_get xs k

abbrev pub session_at : List Sent → ℕ → Option Sent
session_at sessions number = numbered sessions number

abbrev pub sent_at : List Sent → ℕ → Sent
sent_at sessions number = unwrap_or (session_at sessions number) nobody

abbrev pub with_numbered : {A : Type 0} → List A → ℕ → A → List A
with_numbered xs zero x = xs
with_numbered xs (suc k) x = slice_set xs k x

abbrev pub with_sent : List Sent → ℕ → Sent → List Sent
with_sent sessions number sent = with_numbered sessions number sent

abbrev pub arrived_at : TracedView → ℕ → Octets
arrived_at served number = (sent_at served.sessions number).arrived

abbrev pub released_at : TracedView → ℕ → Octets
released_at served number = (sent_at served.sessions number).released

-- the spool at the opening
abbrev pub first_spool : TracedView → Spool
first_spool served = take served.first served.kernel.spool

-- the plain server's run of the trace
abbrev pub account : TracedView → Account Session Change
account served = account_of (service served.kernel.host) (first_spool served) (arrived_at served) served.trace

-- the next whole message of a session, and the octets after it
abbrev pub next_of : TracedView → ℕ → Option (Message × Octets)
next_of served number = taken (service served.kernel.host) (account served).server number

-- ---- together with the plain server

abbrev pub without_ends : List HeldOutput → List Output
without_ends held = map (λ (h : HeldOutput). record { octets = h.octets; dependency = h.dependency }) held

-- only the last output held ends the session, and only if it is closed
abbrev pub EndsLast : Bool → List HeldOutput → Type 0
EndsLast closed [] = closed ≡ false
EndsLast closed (last ∷ []) = last.ends ≡ closed
EndsLast closed (held ∷ next ∷ rest) = (held.ends ≡ false) × EndsLast closed (next ∷ rest)

-- a session that exists agrees with the plain server's, and holds what is not yet released of its outputs
pub record IsPresent (seat : Seat) (sent : Sent) (connection : Connection Session) (outputs : List Output) : Type 0 where
  pub stays : sent.left ≡ false
  pub session : seat.session ≡ connection.session
  pub held : without_ends seat.held ≡ unreleased (length sent.released) outputs
  pub read : last_dependency seat.given seat.held ≡ greatest outputs
  pub ends : EndsLast (is_none (mode_of seat.session.awaits)) seat.held

-- a session that ended is closed, and all its outputs are released
pub record HasEnded (sent : Sent) (connection : Connection Session) (outputs : List Output) : Type 0 where
  pub all : sent.released ≡ octets_of outputs
  pub closed : mode_of connection.session.awaits ≡ None

abbrev pub IsThere : Option Seat → Sent → Connection Session → List Output → Type 0
IsThere None sent connection outputs = sent.left ≡ false → HasEnded sent connection outputs
IsThere (Some seat) sent connection outputs = IsPresent seat sent connection outputs

-- a session that never joined does not exist, and the plain server has sent it only the greeting
pub record IsUnknown (host : Octets) (seat : Option Seat) (connection : Connection Session) (outputs : List Output) : Type 0 where
  pub nowhere : seat ≡ None
  pub fresh : connection.session ≡ new_session
  pub silent : connection.pending ≡ []
  pub greeted : outputs ≡ record { octets = greeting host; dependency = 0 } ∷ []

-- what was released stays released, even to a session that left
pub record IsKnown (durable : ℕ) (seat : Option Seat) (sent : Sent) (connection : Connection Session) (outputs : List Output) : Type 0 where
  pub released : IsReleased durable sent.released outputs
  pub there : IsThere seat sent connection outputs

abbrev pub IsSession : Octets → ℕ → Option Sent → Option Seat → Connection Session → List Output → Type 0
IsSession host durable None seat connection outputs = IsUnknown host seat connection outputs
IsSession host durable (Some sent) seat connection outputs = IsKnown durable seat sent connection outputs

-- The kernel has the plain server's spool, and each session agrees with the plain server's.
pub record IsServed (served : TracedView) : Type 0 where
  pub numbers : length served.sessions ≡ served.kernel.joined
  pub opening : served.first ≤ served.kernel.durable
  pub durable : served.kernel.durable ≤ length served.kernel.spool
  pub spool : (account served).server.spool ≡ served.kernel.spool
  -- each command of the trace found its message
  pub finds : EachFindsMessage (service served.kernel.host) (opened (service served.kernel.host) (first_spool served) (arrived_at served))
      served.trace
  pub each : (number : ℕ) → IsSession served.kernel.host served.kernel.durable (session_at served.sessions number)
      (seat_of served.kernel number) ((account served).server.connections number) ((account served).outputs number)

-- ---- the same, in terms of the plain server

-- the plain server after the trace
abbrev pub plain : TracedView → PlainServer Session Change
plain served = sync (service served.kernel.host) (first_spool served) (arrived_at served) served.trace

-- all that a session is sent in the end
abbrev pub replies_to : TracedView → ℕ → Octets
replies_to served number = concat ((plain served).connections number).replies

abbrev pub octets_of_held : List HeldOutput → Octets
octets_of_held held = concat (map (λ (h : HeldOutput). h.octets) held)

-- The kernel has the plain server's spool. For a session that exists, what was released followed by what is held gives its
-- replies. For one that ended, all its replies were released.
pub record FollowsPlain (served : TracedView) : Type 0 where
  pub spool : served.kernel.spool ≡ (plain served).spool
  pub there : (number : ℕ) (seat : Seat) → seat_of served.kernel number ≡ Some seat
      → released_at served number ++ octets_of_held seat.held ≡ replies_to served number
  pub ended : (number : ℕ) (sent : Sent) → session_at served.sessions number ≡ Some sent → sent.left ≡ false
      → seat_of served.kernel number ≡ None → sent.released ≡ replies_to served number
