-- Each event keeps what is served beside the plain server.
use Rattle.std.proofs.Common.{◌≡◌, ◌≢◌, ℕ, ◌≤◌, ◌+◌, ◌==◌, Bool, true, false, List, [], ◌∷◌, ◌++◌, length, take, Option, Some, None, refl}
use Rattle.std.proofs.Common.{ap, sym, ◌∙◌, subst, arith, length-append}
use Rattle.std.specs.Prelude.{max, unwrap_or, option_map, is_none, is_some, if◌then◌else◌}
use Rattle.std.specs.Option.{IsSome, option_to_list}
use Rattle.std.proofs.lemmas.List.{append-nil, take-append-le}
use Rattle.model.specs.Stream.{Octets, next}
use Rattle.model.specs.Spool.{Spool}
use Rattle.model.specs.News.{service, answer, reads, mode_of}
use Rattle.model.specs.declared.change.Change.{Change}
use Rattle.model.specs.declared.message.Message.{Message}
use Rattle.model.specs.declared.message.Mark.{Mark}
use Rattle.model.specs.declared.message.Mode.{Mode}
use Rattle.model.specs.declared.session.Session.{Session}
use Rattle.kernel_seats.specs.declared.Outcome.{Outcome}
use Rattle.kernel.specs.Kernel.{KernelView, seat_of, joined, left, answered, Executed}
use Rattle.kernel_seats.specs.Seats.{Ready, Seat, new_seat}
use Rattle.kernel_seats.proofs.SeatsLaws.{eqb-same}
use Rattle.synchrony.specs.Framing.{next_in}
use Rattle.synchrony.specs.Server.{Entry, Command, Admin, Connection, opened, updated}
use Rattle.synchrony.specs.Dependency.{Output, greatest, Account, account_of, account_step}
use Rattle.synchrony.specs.Progress.{EachFindsMessage, HasMore}
use Rattle.synchrony.proofs.Fronts.{same_functions}
use Rattle.synchrony.proofs.GoingOn.{account_served, arrivals_only_wait, entries_are_steps}
use Rattle.synchrony.proofs.Filled.{outputs_are_filled}
use Rattle.kernel_trace.specs.Traced.{Sent, TracedView, Trace, nobody, session_at, sent_at}
use Rattle.kernel_trace.specs.Traced.{with_sent, arrived_at, first_spool, account, next_of}
use Rattle.kernel_trace.specs.Traced.{IsPresent, IsUnknown, IsKnown, IsSession, IsServed}
use Rattle.kernel_trace.specs.Events.{joins, arrives, leaves, with_kernel, with_released, Serves, Makes}
use Rattle.kernel_trace.specs.Fields.{AreKnown, given_in}
use Rattle.model.proofs.NewsLaws.{lawful}
use Rattle.kernel_trace.proofs.Seats.{seat_in, seat_in-number, seat_in-joined, seat_in-left, seat_in-answered, Given as GivenTo, by_number}
use Rattle.kernel_trace.proofs.Seats.{updated-same, updated-other, eqb-other}
use Rattle.kernel_trace.proofs.Sessions.{session_at-joined, session_at-with, session_at-past, length-with_sent, with_released-at}
use Rattle.kernel_trace.proofs.Sessions.{length-with_released, sent_more}
use Rattle.kernel_trace.proofs.Standing.{IsSession-along, IsSession-raise, IsSession-joins}
use Rattle.kernel_trace.proofs.Standing.{IsSession-arrives, IsSession-left, IsSession-served}
use Rattle.kernel_trace.proofs.Standing.{IsSession-releases, there_joined, sent_arrived}

-- ---- what the plain server is asked about

-- the account of a host, a spool at the opening, inputs and a trace
abbrev pub account_in : Octets → Spool → (ℕ → Octets) → Trace → Account Session Change
account_in host S inputs trace = account_of (service host) S inputs trace

-- Beside the plain server's account stand the kernel's parts, by functions of a session's number.
pub record Stands (host : Octets) (durable : ℕ) (spool S : Spool) (inputs : ℕ → Octets) (trace : Trace) (sent : ℕ → Option Sent) (seats : ℕ
    → Option Seat) : Type 0 where
  pub spool_is : (account_in host S inputs trace).server.spool ≡ spool
  pub finds : EachFindsMessage (service host) (opened (service host) S inputs) trace
  pub each : (number : ℕ) → IsSession host durable (sent number) (seats number) ((account_in host S inputs trace).server.connections number)
      ((account_in host S inputs trace).outputs number)

pub Stands-along : (host : Octets) (durable : ℕ) {spool spool' S S' : Spool} {inputs inputs' : ℕ
    → Octets} {trace trace' : Trace} {sent sent' : ℕ → Option Sent} {seats seats' : ℕ → Option Seat}
    → spool' ≡ spool → S' ≡ S → inputs' ≡ inputs → trace' ≡ trace → sent' ≡ sent → seats' ≡ seats
    → Stands host durable spool S inputs trace sent seats → Stands host durable spool' S' inputs' trace' sent' seats'
Stands-along host durable a b c d e f h =
    subst (λ (t : Spool × Spool × (ℕ → Octets) × Trace × (ℕ → Option Sent) × (ℕ → Option Seat)). Stands host durable t.0 t.1 t.2 t.3 t.4
    t.5) (λ i. (sym a i, sym b i, sym c i, sym d i, sym e i, sym f i)) h

pub as_stands : (served : TracedView) → IsServed served
    → Stands served.kernel.host served.kernel.durable served.kernel.spool (first_spool served) (arrived_at served) served.trace
    (session_at served.sessions) (seat_of served.kernel)
as_stands served h = record { spool_is = h.spool; finds = h.finds; each = h.each }

-- what is served, by its parts
pub from_stands : (served : TracedView) → length served.sessions ≡ served.kernel.joined → served.first ≤ served.kernel.durable
    → served.kernel.durable ≤ length served.kernel.spool
    → Stands served.kernel.host served.kernel.durable served.kernel.spool (first_spool served) (arrived_at served) served.trace
    (session_at served.sessions) (seat_of served.kernel) → IsServed served
from_stands served numbers opening durable h = record {
  numbers = numbers;
  opening = opening;
  durable = durable;
  spool = h.spool_is;
  finds = h.finds;
  each = h.each;
}

-- the first changes stay when more are accepted
first_stays : (served : TracedView) (more : Spool) → IsServed served → take served.first (served.kernel.spool ++ more) ≡ first_spool served
first_stays served more h = take-append-le served.first served.kernel.spool more (omega (arith, h.opening, h.durable))

-- ---- join

pub IsServed-joins : (served : TracedView) → IsServed served → IsServed (joins served) × (account (joins served) ≡ account served)
    × (arrived_at (joins served) ≡ arrived_at served)
IsServed-joins served h = (
  from_stands (joins served)
      (omega (arith, length-append served.sessions (nobody ∷ []), h.numbers))
      h.opening h.durable
      (Stands-along host served.kernel.durable refl refl inputs refl sent seats
      (record { spool_is = h.spool; finds = h.finds; each = by_number P number here others })),
  ap (λ f. account_in host (first_spool served) f served.trace) inputs,
  inputs,
)
  where
    host : Octets
    host = served.kernel.host

    number : ℕ
    number = served.kernel.joined + 1

    unknown : session_at served.sessions number ≡ None
    unknown = session_at-past served.sessions number (omega (arith, h.numbers))

    is_unknown : IsUnknown host (seat_of served.kernel number) ((account served).server.connections number)
        ((account served).outputs number)
    is_unknown = subst (λ o. IsSession host served.kernel.durable o (seat_of served.kernel number)
        ((account served).server.connections number) ((account served).outputs number)) unknown (h.each number)

    sent_is : (k : ℕ) → session_at (served.sessions ++ nobody ∷ []) k ≡ updated (session_at served.sessions) number (Some nobody) k
    sent_is = session_at-joined served.sessions nobody number (omega (arith, h.numbers))

    sent : session_at (served.sessions ++ nobody ∷ []) ≡ updated (session_at served.sessions) number (Some nobody)
    sent = same_functions _ _ sent_is

    seats : seat_of (joined served.kernel) ≡ updated (seat_of served.kernel) number (Some (new_seat host number))
    seats = same_functions _ _ (seat_in-joined served.kernel.seats (new_seat host number) is_unknown.nowhere)

    arrived : (k : ℕ) → arrived_at (joins served) k ≡ arrived_at served k
    arrived =
        by_number (λ k. arrived_at (joins served) k ≡ arrived_at served k) number
        (ap (λ o. (unwrap_or o nobody).arrived) (sent_is number ∙ updated-same (session_at served.sessions) number (Some nobody))
        ∙ sym (ap (λ o. (unwrap_or o nobody).arrived) unknown))
        (λ k differs. ap (λ o. (unwrap_or o nobody).arrived) (sent_is k
        ∙ updated-other (session_at served.sessions) number k (Some nobody) differs))

    inputs : arrived_at (joins served) ≡ arrived_at served
    inputs = same_functions (arrived_at (joins served)) (arrived_at served) arrived

    P : ℕ → Type 0
    P k = IsSession host served.kernel.durable (updated (session_at served.sessions) number (Some nobody) k)
        (updated (seat_of served.kernel) number (Some (new_seat host number)) k) ((account served).server.connections k)
        ((account served).outputs k)

    here : P number
    here =
        IsSession-along host served.kernel.durable (updated-same (session_at served.sessions) number (Some nobody))
        (updated-same (seat_of served.kernel) number (Some (new_seat host number))) refl refl
        (IsSession-joins host served.kernel.durable number (seat_of served.kernel number) _ _ (lawful host).greets is_unknown)

    others : (k : ℕ) → k ≢ number → P k
    others k differs =
        IsSession-along host served.kernel.durable (updated-other (session_at served.sessions) number k (Some nobody) differs)
        (updated-other (seat_of served.kernel) number k (Some (new_seat host number)) differs) refl refl (h.each k)

-- ---- arrive

-- the octets that come after those of this session
abbrev pub more_at : ℕ → Octets → ℕ → Octets
more_at number octets k = if k == number then octets else []

pub IsServed-arrives : (served : TracedView) (number : ℕ) (octets : Octets) (seat : Seat) → seat_of served.kernel number ≡ Some seat
    → IsServed served → IsServed (arrives served number octets) × HasMore (more_at number octets) (account served)
    (account (arrives served number octets))
    × ((k : ℕ) → arrived_at (arrives served number octets) k ≡ arrived_at served k ++ more_at number octets k)
IsServed-arrives served number octets seat is h = (
  from_stands (arrives served number octets)
      (length-with_sent served.sessions number _ ∙ h.numbers)
      h.opening h.durable
      (record {
        spool_is = now.spool ∙ h.spool;
        finds = waits.1;
        each = λ k. IsSession-along host served.kernel.durable (sent_is k) refl (now.connections k) (now.outputs k)
            (IsSession-arrives host served.kernel.durable (more k) (session_at served.sessions k) (seat_of served.kernel k) _ _ (silent k)
            (h.each k));
      }),
  now,
  later,
)
  where
    host : Octets
    host = served.kernel.host

    known : (s : Sent) × (session_at served.sessions number ≡ Some s)
        × IsKnown served.kernel.durable (Some seat) s ((account served).server.connections number) ((account served).outputs number)
    known = there_joined host served.kernel.durable (session_at served.sessions number) seat _ _
        (IsSession-along host served.kernel.durable refl (sym is) refl refl (h.each number))

    more : ℕ → Octets
    more = more_at number octets

    next : Sent
    next = record (sent_at served.sessions number) { arrived = (sent_at served.sessions number).arrived ++ octets }

    same : sent_at served.sessions number ≡ known.0
    same = ap (λ o. unwrap_or o nobody) known.1

    silent : (k : ℕ) → session_at served.sessions k ≡ None → more k ≡ []
    silent =
        by_number (λ k. session_at served.sessions k ≡ None → more k ≡ []) number
        (λ none. absurd (cc (none, known.1)))
        (λ k differs none. ap (λ b. if b then octets else []) (eqb-other k number differs))

    nothing_more : (o : Option Sent) → o ≡ option_map (sent_arrived []) o
    nothing_more None = refl
    nothing_more (Some s) = ap (λ xs. Some (record { arrived = xs; released = s.released; left = s.left })) (sym (append-nil s.arrived))

    sent_is : (k : ℕ) → session_at (with_sent served.sessions number next) k ≡ option_map (sent_arrived (more k))
        (session_at served.sessions k)
    sent_is =
        by_number (λ k. session_at (with_sent served.sessions number next) k ≡ option_map (sent_arrived (more k))
        (session_at served.sessions k)) number
        (session_at-with served.sessions number next known.0 known.1 number ∙ (updated-same (session_at served.sessions) number (Some next)
        ∙ ((λ i. Some (sent_arrived (ap (λ b. if b then octets else []) (sym (eqb-same number)) i) (same i)))
        ∙ ap (option_map (sent_arrived (more number))) (sym known.1))))
        (λ k differs. session_at-with served.sessions number next known.0 known.1 k
        ∙ (updated-other (session_at served.sessions) number k (Some next) differs
        ∙ (nothing_more (session_at served.sessions k)
        ∙ ap (λ xs. option_map (sent_arrived xs) (session_at served.sessions k))
        (ap (λ b. if b then octets else []) (sym (eqb-other k number differs))))))

    arrived_more : (o : Option Sent) (xs : Octets) → (o ≡ None → xs ≡ [])
        → (unwrap_or (option_map (sent_arrived xs) o) nobody).arrived ≡ (unwrap_or o nobody).arrived ++ xs
    arrived_more None xs none = sym (none refl)
    arrived_more (Some s) xs none = refl

    later : (k : ℕ) → arrived_at (arrives served number octets) k ≡ arrived_at served k ++ more k
    later k = ap (λ o. (unwrap_or o nobody).arrived) (sent_is k) ∙ arrived_more (session_at served.sessions k) (more k) (silent k)

    waits : HasMore more (account served) (account (arrives served number octets))
        × EachFindsMessage (service host) (opened (service host) (first_spool served) (arrived_at (arrives served number octets)))
        served.trace
    waits = arrivals_only_wait (service host) (lawful host) (first_spool served) (arrived_at served)
        (arrived_at (arrives served number octets)) more served.trace later h.finds

    now : HasMore more (account served) (account (arrives served number octets))
    now = waits.0

-- ---- the operator's change

pub IsServed-makes : (old new : TracedView) (change : Change) (serial : ℕ) → Makes old new change serial → IsServed old
    → IsServed new × (account new ≡ account_step (service old.kernel.host) (account old) (Admin change))
    × (first_spool new ≡ first_spool old)
IsServed-makes old new change serial m h =
    let steps = entries_are_steps (service host) (first_spool old) (arrived_at old) old.trace (Admin change) in (
      from_stands new
          (ap length m.sessions ∙ (h.numbers ∙ sym rest.6))
          (omega (arith, h.opening, m.first, rest.3))
          (omega (arith, h.durable, rest.3, ap length m.kernel.spool, length-append old.kernel.spool (change ∷ [])))
          (subst (λ (t : Octets × ℕ). Stands t.0 t.1 new.kernel.spool (first_spool new) (arrived_at new) new.trace (session_at new.sessions)
          (seat_of new.kernel)) (λ i. (sym rest.0 i, sym rest.3 i))
          (Stands-along host old.kernel.durable m.kernel.spool first_is (ap (λ xs k. (sent_at xs k).arrived) m.sessions) m.trace
          (ap session_at m.sessions) (ap seat_in rest.2)
          (record {
            spool_is = ap (λ (a : Account _ _). a.server.spool) steps.0 ∙ ap (λ s. s ++ change ∷ []) h.spool;
            finds = steps.2 h.finds tt;
            each = λ k. IsSession-along host old.kernel.durable refl refl (ap (λ (a : Account _ _). a.server.connections k) steps.0)
                (ap (λ (a : Account _ _). a.outputs k) steps.0) (h.each k);
          }))),
      (λ i. account_in (rest.0 i) (first_is i) (λ k. (sent_at (m.sessions i) k).arrived) (m.trace i)) ∙ steps.0,
      first_is,
    )
  where
    host : Octets
    host = old.kernel.host

    rest : (new.kernel.host ≡ old.kernel.host) × (new.kernel.inodes ≡ old.kernel.inodes) × (new.kernel.seats ≡ old.kernel.seats)
        × (new.kernel.durable ≡ old.kernel.durable) × (new.kernel.in_flight ≡ old.kernel.in_flight)
        × (new.kernel.halted ≡ old.kernel.halted) × (new.kernel.joined ≡ old.kernel.joined) × (new.kernel.most ≡ old.kernel.most)
    rest = m.kernel.rest

    first_is : first_spool new ≡ first_spool old
    first_is = (λ i. take (m.first i) (m.kernel.spool i)) ∙ first_stays old (change ∷ []) h

-- ---- a message is served

is_some_not_none : {A : Type 0} (o : Option A) (x : A) → o ≡ Some x → is_none o ≡ false
is_some_not_none None x is = absurd (cc is)
is_some_not_none (Some a) x is = refl

-- where a message is found, one is awaited
found_awaits : (o : Option Mode) (octets : Octets) (found : Message × Octets) → next_in next o octets ≡ Some found → is_none o ≡ false
found_awaits None octets found is = absurd (cc is)
found_awaits (Some mode) octets found is = refl

pub IsServed-serves : (old new : TracedView) (number moment : ℕ) (message : Message) (rest : Octets) (outcome : Outcome)
    → next_of old number ≡ Some (message, rest) → (s : Serves old new number moment message outcome) → IsServed old
    → IsServed new × (account new ≡ account_served (service old.kernel.host) (account old) number moment outcome.mark
    (Some (message, rest))) × (first_spool new ≡ first_spool old)
    × (s.kernel.seat.session ≡ ((account old).server.connections number).session)
IsServed-serves old new number moment message rest outcome found s h =
    let steps = entries_are_steps (service host) (first_spool old) (arrived_at old) old.trace entry in
    let all : account_in host (first_spool old) (arrived_at old) (old.trace ++ entry ∷ []) ≡ account_served (service host)
    (account old) number moment mark (Some (message, rest)) =
    steps.0 ∙ ap (account_served (service host) (account old) number moment mark) found in
    let finds : EachFindsMessage (service host) (opened (service host) (first_spool old) (arrived_at old)) (old.trace ++ entry ∷ []) =
    steps.2 h.finds (subst IsSome (sym found) refl) in (
      from_stands new
          (ap length s.sessions ∙ (h.numbers ∙ sym ex.joined))
          (omega (arith, h.opening, s.first, ex.durable))
          (omega (arith, h.durable, ex.durable, ap length ex.spool, length-append old.kernel.spool (option_to_list made)))
          (subst (λ (t : Octets × ℕ). Stands t.0 t.1 new.kernel.spool (first_spool new) (arrived_at new) new.trace (session_at new.sessions)
          (seat_of new.kernel)) (λ i. (sym ex.host i, sym ex.durable i))
          (Stands-along host old.kernel.durable ex.spool first_is (ap (λ xs k. (sent_at xs k).arrived) s.sessions) s.trace
          (ap session_at s.sessions) seats
          (record {
            spool_is = ap (λ (a : Account _ _). a.server.spool) all ∙ (λ i. h.spool i ++ option_to_list (like i).change);
            finds = finds;
            each = λ k. IsSession-along host old.kernel.durable refl refl (ap (λ (a : Account _ _). a.server.connections k) all)
                (ap (λ (a : Account _ _). a.outputs k) all) (each k);
          }))),
      (λ i. account_in (ex.host i) (first_is i) (λ k. (sent_at (s.sessions i) k).arrived) (s.trace i)) ∙ all,
      first_is,
      present.session,
    )
  where
    host : Octets
    host = old.kernel.host

    mark : Mark
    mark = outcome.mark

    entry : Entry Change Mark
    entry = Command number moment mark

    seat : Seat
    seat = s.kernel.seat

    ex : Executed old.kernel new.kernel s.kernel.seat message moment outcome.mark
    ex = s.kernel.executed

    connection : Connection Session
    connection = (account old).server.connections number

    outputs : List Output
    outputs = (account old).outputs number

    known : (t : Sent) × (session_at old.sessions number ≡ Some t) × IsKnown old.kernel.durable (Some s.kernel.seat) t
        ((account old).server.connections number) ((account old).outputs number)
    known = there_joined host old.kernel.durable (session_at old.sessions number) seat _ _
        (IsSession-along host old.kernel.durable {sent = session_at old.sessions number} {connection = connection} {outputs =
        outputs} refl (sym s.kernel.is_there) refl refl (h.each number))

    present : IsPresent s.kernel.seat known.0 ((account old).server.connections number) ((account old).outputs number)
    present = known.2.there

    made : Option Change
    made = (answer host old.kernel.spool seat.session message moment mark).change

    like : (service host).answer (account old).server.spool connection.session message moment mark
        ≡ (service host).answer old.kernel.spool seat.session message moment mark
    like = λ i. (service host).answer (h.spool i) (sym present.session i) message moment mark

    alike : (service host).reads (account old).server.spool connection.session message moment mark
        ≡ reads host old.kernel.spool seat.session message moment mark
    alike = λ i. (service host).reads (h.spool i) (sym present.session i) message moment mark

    first_is : first_spool new ≡ first_spool old
    first_is = (λ i. take (s.first i) (ex.spool i)) ∙ first_stays old (option_to_list made) h

    awaits : is_none (mode_of seat.session.awaits) ≡ false
    awaits = ap (λ (x : Session). is_none (mode_of x.awaits)) present.session
        ∙ found_awaits (mode_of connection.session.awaits) connection.pending (message, rest) found

    answer_seat : Seat
    answer_seat = answered old.kernel message moment mark seat

    seat_number : seat.number ≡ number
    seat_number = seat_in-number old.kernel.seats number seat s.kernel.is_there

    seats : seat_of new.kernel ≡ updated (seat_of old.kernel) number (Some answer_seat)
    seats =
        ap seat_in ex.seats
        ∙ (same_functions _ _ (seat_in-answered old.kernel.seats answer_seat seat (ap (seat_in old.kernel.seats) seat_number
        ∙ s.kernel.is_there))
        ∙ ap (λ n. updated (seat_of old.kernel) n (Some answer_seat)) seat_number)

    reply : Connection Session
    reply = record {
      session = ((service host).answer (account old).server.spool connection.session message moment mark).next;
      pending = rest;
      replies = connection.replies ++
          ((service host).answer (account old).server.spool connection.session message moment mark).reply ∷ [];
    }

    now : List Output
    now = outputs ++ record {
      octets = ((service host).answer (account old).server.spool connection.session message moment mark).reply;
      dependency = max (greatest outputs) ((service host).reads (account old).server.spool connection.session message moment mark);
    } ∷ []

    here : IsSession host old.kernel.durable (session_at old.sessions number) (Some answer_seat) reply now
    here =
        IsSession-along host old.kernel.durable known.1 refl
        (λ i. record { session = (like i).next; pending = rest; replies = connection.replies ++ (like i).reply ∷ [] })
        (λ i. outputs ++ record { octets = (like i).reply; dependency = max (greatest outputs) (alike i) } ∷ [])
        (IsSession-served host old.kernel.durable known.0 seat connection outputs
        (answer host old.kernel.spool seat.session message moment mark).next
        (answer host old.kernel.spool seat.session message moment mark).reply rest
        (reads host old.kernel.spool seat.session message moment mark) known.2 awaits
        ((lawful host).replies old.kernel.spool seat.session message moment mark))

    each : (k : ℕ) → IsSession host old.kernel.durable (session_at old.sessions k)
        (updated (seat_of old.kernel) number (Some answer_seat) k) (updated (account old).server.connections number reply k)
        (updated (account old).outputs number now k)
    each =
        by_number (λ k. IsSession host old.kernel.durable (session_at old.sessions k)
        (updated (seat_of old.kernel) number (Some answer_seat) k) (updated (account old).server.connections number reply k)
        (updated (account old).outputs number now k)) number
        (IsSession-along host old.kernel.durable {sent = session_at old.sessions number} refl
        (updated-same (seat_of old.kernel) number (Some answer_seat)) (updated-same (account old).server.connections number reply)
        (updated-same (account old).outputs number now) here)
        (λ k differs. IsSession-along host old.kernel.durable {sent = session_at old.sessions k} refl
        (updated-other (seat_of old.kernel) number k (Some answer_seat) differs)
        (updated-other (account old).server.connections number k reply differs)
        (updated-other (account old).outputs number k now differs) (h.each k))

-- ---- a session leaves

pub IsServed-leaves : (served : TracedView) (number : ℕ) → IsServed served
    → IsServed (leaves served number) × (account (leaves served number) ≡ account served)
    × (arrived_at (leaves served number) ≡ arrived_at served)
IsServed-leaves served number h = go (seat_of served.kernel number) refl
  where
    host : Octets
    host = served.kernel.host

    next : Sent
    next = record (sent_at served.sessions number) { left = true }

    seats : seat_of (left served.kernel number) ≡ updated (seat_of served.kernel) number None
    seats = same_functions _ _ (seat_in-left number served.kernel.seats)

    -- the sessions after it, where it was there and where it wasn't
    after : Bool → TracedView
    after b = record served {
      kernel = left served.kernel number;
      sessions = if b then with_sent served.sessions number next else served.sessions;
    }

    -- it was not there
    gone : seat_of served.kernel number ≡ None → (k : ℕ) → updated (seat_of served.kernel) number None k ≡ seat_of served.kernel k
    gone none =
        by_number (λ k. updated (seat_of served.kernel) number None k ≡ seat_of served.kernel k) number
        (updated-same (seat_of served.kernel) number None ∙ sym none)
        (λ k differs. updated-other (seat_of served.kernel) number k None differs)

    absent : seat_of served.kernel number ≡ None → IsServed (after false) × (account (after false) ≡ account served)
        × (arrived_at (after false) ≡ arrived_at served)
    absent none = (
      from_stands (after false) h.numbers h.opening h.durable
          (Stands-along host served.kernel.durable refl refl refl refl refl (seats ∙ same_functions _ _ (gone none)) (as_stands served h)),
      refl,
      refl,
    )

    here : (seat : Seat) → seat_of served.kernel number ≡ Some seat → IsServed (after true) × (account (after true) ≡ account served)
        × (arrived_at (after true) ≡ arrived_at served)
    here seat is =
        let known = there_joined host served.kernel.durable (session_at served.sessions number) seat
        ((account served).server.connections number) ((account served).outputs number)
        (IsSession-along host served.kernel.durable {sent = session_at served.sessions number} {connection =
        (account served).server.connections number} {outputs = (account served).outputs number} refl (sym is) refl refl (h.each number))
        in
        let same : sent_at served.sessions number ≡ known.0 = ap (λ o. unwrap_or o nobody) known.1 in
        let sent_is : (k : ℕ) → session_at (with_sent served.sessions number next) k ≡ updated (session_at served.sessions) number
        (Some next) k = session_at-with served.sessions number next known.0 known.1 in
        let inputs : arrived_at (after true) ≡ arrived_at served =
        same_functions (arrived_at (after true)) (arrived_at served)
        (by_number (λ k. arrived_at (after true) k ≡ arrived_at served k) number
        (ap (λ o. (unwrap_or o nobody).arrived) (sent_is number ∙ updated-same (session_at served.sessions) number (Some next)))
        (λ k differs. ap (λ o. (unwrap_or o nobody).arrived) (sent_is k
        ∙ updated-other (session_at served.sessions) number k (Some next) differs))) in
        let each : (k : ℕ) → IsSession host served.kernel.durable (updated (session_at served.sessions) number (Some next) k)
        (updated (seat_of served.kernel) number None k) ((account served).server.connections k) ((account served).outputs k) =
        by_number (λ k. IsSession host served.kernel.durable (updated (session_at served.sessions) number (Some next) k)
        (updated (seat_of served.kernel) number None k) ((account served).server.connections k) ((account served).outputs k)) number
        (IsSession-along host served.kernel.durable {connection = (account served).server.connections number} {outputs =
        (account served).outputs number}
        (updated-same (session_at served.sessions) number (Some next)
        ∙ ap (λ (t : Sent). Some (record { arrived = t.arrived; released = t.released; left = true })) same)
        (updated-same (seat_of served.kernel) number None) refl refl
        (IsSession-left host served.kernel.durable known.0 (Some seat) ((account served).server.connections number)
        ((account served).outputs number) known.2))
        (λ k differs. IsSession-along host served.kernel.durable {connection = (account served).server.connections k} {outputs =
        (account served).outputs k}
        (updated-other (session_at served.sessions) number k (Some next) differs)
        (updated-other (seat_of served.kernel) number k None differs) refl refl (h.each k)) in (
          from_stands (after true) (length-with_sent served.sessions number next ∙ h.numbers) h.opening h.durable
              (Stands-along host served.kernel.durable refl refl inputs refl (same_functions _ _ sent_is) seats
              (record { spool_is = h.spool; finds = h.finds; each = each })),
          ap (λ f. account_in host (first_spool served) f served.trace) inputs,
          inputs,
        )

    go : (o : Option Seat) → seat_of served.kernel number ≡ o
        → IsServed (leaves served number) × (account (leaves served number) ≡ account served)
        × (arrived_at (leaves served number) ≡ arrived_at served)
    go None is = subst (λ o. IsServed (after (is_some o)) × (account (after (is_some o)) ≡ account served)
        × (arrived_at (after (is_some o)) ≡ arrived_at served)) (sym is) (absent is)
    go (Some seat) is = subst (λ o. IsServed (after (is_some o)) × (account (after (is_some o)) ≡ account served)
        × (arrived_at (after (is_some o)) ≡ arrived_at served)) (sym is) (here seat is)

-- ---- a release

-- sessions gave these entries
abbrev pub gives : TracedView → Ready → TracedView
gives served given = record served {
  kernel = record served.kernel { seats = given.seats };
  sessions = with_released served.sessions given.entries;
  ready = given.entries;
}

pub IsServed-gives : (served : TracedView) (given : Ready) → AreKnown served.sessions given.entries
    → ((k : ℕ) → GivenTo served.kernel.durable (seat_of served.kernel k) (seat_in given.seats k) (given_in k given.entries))
    → IsServed served
    → IsServed (gives served given) × (account (gives served given) ≡ account served)
    × (arrived_at (gives served given) ≡ arrived_at served)
IsServed-gives served given known gave h = (
  from_stands (gives served given) (length-with_released served.sessions given.entries ∙ h.numbers) h.opening h.durable
      (Stands-along host served.kernel.durable refl refl inputs refl (same_functions _ _ sent_is) refl
      (record { spool_is = h.spool; finds = h.finds; each = each })),
  ap (λ f. account_in host (first_spool served) f served.trace) inputs,
  inputs,
)
  where
    host : Octets
    host = served.kernel.host

    sent_is : (k : ℕ) → session_at (with_released served.sessions given.entries) k ≡ option_map (sent_more (given_in k given.entries))
        (session_at served.sessions k)
    sent_is = with_released-at served.sessions given.entries known

    same_arrived : (o : Option Sent) (xs : Octets) → (unwrap_or (option_map (sent_more xs) o) nobody).arrived ≡ (unwrap_or o nobody).arrived
    same_arrived None xs = refl
    same_arrived (Some s) xs = refl

    arrived : (k : ℕ) → arrived_at (gives served given) k ≡ arrived_at served k
    arrived k = ap (λ o. (unwrap_or o nobody).arrived) (sent_is k) ∙ same_arrived (session_at served.sessions k) (given_in k given.entries)

    inputs : arrived_at (gives served given) ≡ arrived_at served
    inputs = same_functions (arrived_at (gives served given)) (arrived_at served) arrived

    each : (k : ℕ) → IsSession host served.kernel.durable
        (option_map (sent_more (given_in k given.entries)) (session_at served.sessions k)) (seat_in given.seats k)
        ((account served).server.connections k) ((account served).outputs k)
    each k =
        IsSession-releases host served.kernel.durable (session_at served.sessions k) (seat_of served.kernel k) (seat_in given.seats k)
        (given_in k given.entries) _ _
        (outputs_are_filled (service host) (lawful host) (first_spool served) (arrived_at served) served.trace k)
        (gave k) (h.each k)

-- ---- the kernel alone

-- a kernel with the same sessions and changes, of which at least as many are durable
pub IsServed-kernel : (served : TracedView) (kernel : KernelView) → kernel.host ≡ served.kernel.host → kernel.spool ≡ served.kernel.spool
    → kernel.seats ≡ served.kernel.seats → kernel.joined ≡ served.kernel.joined
    → served.kernel.durable ≤ kernel.durable → kernel.durable ≤ length kernel.spool → IsServed served → IsServed (with_kernel served kernel)
IsServed-kernel served kernel host spool seats joined more within h =
    from_stands (with_kernel served kernel) (h.numbers ∙ sym joined) (omega (arith, h.opening)) within
    (subst (λ x. Stands x kernel.durable kernel.spool (take served.first kernel.spool) (arrived_at served) served.trace
    (session_at served.sessions) (seat_of kernel)) (sym host)
    (Stands-along served.kernel.host kernel.durable spool (ap (take served.first) spool) refl refl refl (ap seat_in seats)
    (record {
      spool_is = h.spool;
      finds = h.finds;
      each = λ k. IsSession-raise served.kernel.host served.kernel.durable kernel.durable (session_at served.sessions k)
          (seat_of served.kernel k) _ _ more (h.each k);
    })))
