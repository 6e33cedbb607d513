-- What the fields of the code mean, and what they keep.
use Rattle.std.specs.Option.{IsSome}
use Rattle.std.specs.Prelude.{◌≡◌, ◌+◌, ◌≤◌, ◌++◌, ◌==◌, ℕ, List, [], ◌∷◌, if◌then◌else◌, length, map, Option, Some, vec_len, vec_capacity}
use Rattle.kernel.specs.Kernel.{KernelView, seat_of}
use Rattle.kernel_seats.specs.Seats.{Seat}
use Rattle.model.specs.News.{mode_of}
use Rattle.model.specs.declared.change.Change.{Change}
use Rattle.model.specs.declared.message.Mark.{Mark}
use Rattle.model.specs.declared.message.Mode.{Mode}
use Rattle.kernel_outbox.specs.Queue.{Giving, ReadyEntry, entry_of as entry_given}
use Rattle.model.specs.declared.session.Session.{Session}
use Rattle.synchrony.specs.Server.{Connection, Entry, Command as Commanded, Admin as Administered}
use Rattle.kernel_trace.specs.Input.{Waits}
use Rattle.kernel_trace.specs.Marks.{AreMarked}
use Rattle.kernel_trace.specs.Traced.{IsServed, Sent, TracedView, account, numbered, with_numbered}
use Rattle.kernel_trace.specs.declared.TracedKernel.TheInside.{Inside}
use Rattle.kernel_trace.specs.declared.entry.Happened.{Happened}
use Rattle.kernel_trace.specs.declared.entry.Happened.TheVariants.{Command, Admin}
use Rattle.kernel_trace.specs.declared.input.Input.{Input}
use Rattle.kernel_trace.specs.declared.peer.Peer.{Peer}

-- an entry of the trace
abbrev pub entry_of : Happened → Entry Change Mark
entry_of (Command session moment mark) = Commanded session moment mark
entry_of (Admin change) = Administered change

abbrev pub sent_of : Peer → Sent
sent_of peer = record { arrived = peer.arrived.items; released = peer.released.items; left = peer.left }

abbrev pub sents : List Peer → List Sent
sents peers = map sent_of peers

abbrev pub inputs : List Peer → List Input
inputs peers = map (λ (peer : Peer). peer.input) peers

-- what callers see of a kernel, the number of changes when it was opened, the sessions, the trace and the entries that are ready
abbrev pub view_of : KernelView → ℕ → List Peer → List (Entry Change Mark) → List ReadyEntry → TracedView
view_of kernel first peers trace ready = record { kernel = kernel; first = first; sessions = sents peers; trace = trace; ready = ready }

abbrev pub seen : Inside → TracedView
seen s = view_of s.kernel s.first s.peers.items s.trace.items s.ready

-- the input of each session that exists stands for what waits at the plain server
abbrev pub InputsStand : (ℕ → Connection Session) → (ℕ → Option Input) → (ℕ → Option Seat) → Type 0
InputsStand connections inputs seats =
    (number : ℕ) (input : Input) (seat : Seat) (mode : Mode) → inputs number ≡ Some input → seats number ≡ Some seat
    → mode_of (connections number).session.awaits ≡ Some mode → Waits input mode (connections number).pending

pub record IsSound (served : TracedView) (its_inputs : List Input) : Type 0 where
  pub beside : IsServed served
  pub many : length its_inputs ≡ length served.sessions
  pub stand : InputsStand (account served).server.connections (numbered its_inputs) (seat_of served.kernel)
  pub marks : AreMarked served

-- the input at this number changes in this way
abbrev pub Becomes : List Input → List Input → ℕ → (Input → Input → Type 0) → Type 0
Becomes old new number R = (before : Input) → numbered old number ≡ Some before
    → (after : Input) × (new ≡ with_numbered old number after) × R before after

-- the octets of a session's entries
abbrev pub given_in : ℕ → List ReadyEntry → List ℕ
given_in number [] = []
given_in number (entry ∷ entries) = (if entry.0 == number then entry.1 else []) ++ given_in number entries

-- what one session gives: an entry or none
abbrev pub GivesOne : List ReadyEntry → Type 0
GivesOne entries = (number : ℕ) × (given : Giving) × (length given.octets ≤ 65536) × (entries ≡ entry_given number given)

-- each entry is of a session that joined
abbrev pub AreKnown : List Sent → List ReadyEntry → Type 0
AreKnown sessions [] = Unit {0}
AreKnown sessions (entry ∷ entries) = IsSome (numbered sessions entry.0) × AreKnown sessions entries

-- a peer has room for this many more octets that are released to it
abbrev pub HasRoom : List Peer → ℕ → ℕ → Type 0
HasRoom peers number needed = (peer : Peer) → numbered peers number ≡ Some peer
    → vec_len peer.released + needed ≤ vec_capacity peer.released

abbrev pub HaveRoom : List Peer → (ℕ → ℕ) → Type 0
HaveRoom peers needed = (number : ℕ) → HasRoom peers number (needed number)
