-- What each event does to what is served.
use Rattle.std.specs.Prelude.{Result, Err, MatchResult, ◌≡◌, ℕ, ◌++◌, true, List, [], ◌∷◌, length, Option, Some, None, is_some, is_none}
use Rattle.std.specs.Prelude.{◌==◌, not, filter, min, if◌then◌else◌}
use Rattle.model.specs.Stream.{Octets}
use Rattle.model.specs.declared.change.Change.{Change}
use Rattle.model.specs.declared.message.Message.{Message}
use Rattle.model.specs.declared.message.Mark.{Mark}
use Rattle.model.specs.declared.message.Mode.{Mode}
use Rattle.kernel_seats.specs.declared.Outcome.{Outcome}
use Rattle.kernel_outbox.specs.Queue.{ReadyEntry, entry_of, give}
use Rattle.kernel.specs.Kernel.{KernelView, seat_of, mode_at, joined, left, released, exec_refusal, first_failing, Refusal}
use Rattle.kernel.specs.Kernel.{NoSession, Execs, Administers, TestedOrMemory}
use Rattle.kernel_seats.specs.Seats.{Ready, Seat, ready, seat_given, with_seat}
use Rattle.kernel.specs.Errors.{of_exec}
use Rattle.kernel_shared.specs.declared.errors.ExecError.{ExecError}
use Rattle.kernel_shared.specs.declared.errors.ExecError.TheVariants as exec
use Rattle.synchrony.specs.Server.{Command, Admin}
use Rattle.kernel_trace.specs.Traced.{TracedView, Sent, nobody, sent_at, with_sent}

-- the kernel was just opened
abbrev pub opens : KernelView → TracedView
opens kernel = record { kernel = kernel; first = length kernel.spool; sessions = []; trace = []; ready = [] }

-- a session joins: nothing arrived for it, and nothing is released
abbrev pub joins : TracedView → TracedView
joins served = record served { kernel = joined served.kernel; sessions = served.sessions ++ nobody ∷ [] }

-- octets arrive for a session
abbrev pub arrives : TracedView → ℕ → Octets → TracedView
arrives served number octets =
    record served {
      sessions = with_sent served.sessions number
          (record (sent_at served.sessions number) { arrived = (sent_at served.sessions number).arrived ++ octets });
    }

-- a session leaves; nothing happens if it does not exist
abbrev pub leaves : TracedView → ℕ → TracedView
leaves served number =
    record served {
      kernel = left served.kernel number;
      sessions = if is_some (seat_of served.kernel number) then with_sent served.sessions number
          (record (sent_at served.sessions number) { left = true }) else served.sessions;
    }

-- each entry's octets count as released to its session
abbrev pub with_released : List Sent → List ReadyEntry → List Sent
with_released sessions [] = sessions
with_released sessions (entry ∷ entries) =
    with_released (with_sent sessions entry.0
    (record (sent_at sessions entry.0) { released = (sent_at sessions entry.0).released ++ entry.1 })) entries

-- what is ready is handed out
abbrev pub releases : TracedView → TracedView
releases served =
    record served {
      kernel = released served.kernel;
      sessions = with_released served.sessions (ready served.kernel.durable 65536 served.kernel.seats).entries;
      ready = (ready served.kernel.durable 65536 served.kernel.seats).entries;
    }

-- what a session gives where there is room for so many octets, and the sessions afterwards; if it does not exist, nothing
-- happens
abbrev pub ready_within : ℕ → ℕ → List Seat → Option Seat → Ready
ready_within p room seats None = record { entries = []; seats = seats }
ready_within p room seats (Some seat) = record {
  entries = entry_of seat.number (give p room seat.given seat.held);
  seats = if (give p room seat.given seat.held).ended then filter (λ (other : Seat). not (other.number == seat.number)) seats
      else with_seat seats (seat_given seat (give p room seat.given seat.held));
}

abbrev pub given_within : KernelView → ℕ → ℕ → Ready
given_within kernel room number = ready_within kernel.durable room kernel.seats (seat_of kernel number)

-- what is ready of one session is handed out, as far as there is room for octets: for 65,536 at most
abbrev pub releases_of : TracedView → ℕ → ℕ → TracedView
releases_of served number room =
    record served {
      kernel = record served.kernel { seats = (given_within served.kernel (min room 65536) number).seats };
      sessions = with_released served.sessions (given_within served.kernel (min room 65536) number).entries;
      ready = (given_within served.kernel (min room 65536) number).entries;
    }

-- only the kernel changes
abbrev pub with_kernel : TracedView → KernelView → TracedView
with_kernel served kernel = record served { kernel = kernel }

-- a session's message is served, and becomes an entry of the trace
pub record Serves (old new : TracedView) (number moment : ℕ) (message : Message) (outcome : Outcome) : Type 0 where
  pub kernel : Execs old.kernel new.kernel number message moment outcome
  pub trace : new.trace ≡ old.trace ++ Command number moment outcome.mark ∷ []
  pub first : new.first ≡ old.first
  pub sessions : new.sessions ≡ old.sessions
  pub ready : new.ready ≡ old.ready

-- the operator's change is made, and becomes an entry of the trace
pub record Makes (old new : TracedView) (change : Change) (serial : ℕ) : Type 0 where
  pub kernel : Administers old.kernel new.kernel change serial
  pub trace : new.trace ≡ old.trace ++ Admin change ∷ []
  pub first : new.first ≡ old.first
  pub sessions : new.sessions ≡ old.sessions
  pub ready : new.ready ≡ old.ready

-- octets arrive if the session exists and was not closed
abbrev pub arrive_refusal : KernelView → ℕ → Option Refusal
arrive_refusal kernel number = first_failing ((is_none (mode_at kernel number), NoSession) ∷ [])

-- Exec: the next message of a session that exists and is not closed is served, or refused and still its next one; if no
-- message has arrived whole, nothing happens
abbrev pub DidExec : TracedView → ℕ → ℕ → Option Mode → Option (Message × Octets) → Result (Option Outcome) ExecError
    → TracedView → Type 0
DidExec old number moment None found result new = (result ≡ Err exec.NoSession) × (new ≡ old)
DidExec old number moment (Some mode) None result new =
    MatchResult result (λ answered. (answered ≡ None) × (new ≡ old)) (λ e. (e ≡ exec.Memory) × (new ≡ old))
DidExec old number moment (Some mode) (Some found) result new =
    TestedOrMemory of_exec exec.Memory None (exec_refusal old.kernel number found.0) old new result
    (λ answered. (outcome : Outcome) × (answered ≡ Some outcome) × Serves old new number moment found.0 outcome)
