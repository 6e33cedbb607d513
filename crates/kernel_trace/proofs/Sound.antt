-- What the fields keep, through each call.
use Rattle.std.proofs.Common.{◌≡◌, ◌≢◌, ◌⊎◌, inl, inr, ℕ, zero, suc, ◌+◌, ◌≤◌, ◌<◌, ◌==◌, Bool, true, false, List, [], ◌∷◌, ◌++◌, length}
use Rattle.std.proofs.Common.{Option, Some, None, refl, ap, sym, ◌∙◌, subst, arith, length-append, take}
use Rattle.std.specs.Prelude.{filter, is_err, not, OnOk, IfOk, IfSome, IsNone, MatchOption, OnErr, Result, Ok, Err, unwrap_or, is_some}
use Rattle.std.specs.Prelude.{if◌then◌else◌, min}
use Rattle.std.proofs.lemmas.List.{append-nil, length-set, take_all}
use Rattle.kernel_seats.specs.declared.Outcome.{Outcome}
use Rattle.kernel.specs.Kernel.{FitsMode, KernelView, Refusal, Tested, answered, exec_refusal, halted_for_good, joined, made_durable}
use Rattle.kernel.specs.Kernel.{mode_at, seat_of, taken}
use Rattle.kernel_seats.specs.Seats.{Ready, Seat, new_seat, ready}
use Rattle.kernel_seats.proofs.SeatsLaws.{eqb-same}
use Rattle.kernel.specs.Errors.{of_exec}
use Rattle.kernel_shared.specs.declared.errors.ExecError.{ExecError}
use Rattle.kernel_shared.specs.declared.errors.ExecError.TheVariants as exec
use Rattle.kernel.specs.Kept.{IsKept}
use Rattle.model.specs.Calendar.{moment_limit}
use Rattle.model.specs.News.{mode_of, service}
use Rattle.model.specs.Stream.{Octets, next}
use Rattle.model.specs.declared.change.Change.{Change}
use Rattle.model.specs.declared.message.Message.{Message}
use Rattle.model.specs.declared.message.Mark.{Mark}
use Rattle.model.specs.declared.message.Mode.{Mode}
use Rattle.model.specs.declared.session.Session.{Session}
use Rattle.synchrony.specs.Dependency.{Account}
use Rattle.synchrony.specs.Service.{Answer}
use Rattle.synchrony.specs.Progress.{HasMore, with_more}
use Rattle.synchrony.specs.Server.{Connection, Entry, updated}
use Rattle.synchrony.proofs.Fronts.{same_functions}
use Rattle.synchrony.proofs.GoingOn.{account_served}
use Rattle.kernel_trace.specs.Events.{arrives, given_within, joins, leaves, opens, releases, releases_of, with_kernel, DidExec, Makes}
use Rattle.kernel_trace.specs.Events.{Serves}
use Rattle.kernel_trace.specs.Fields.{AreKnown, Becomes, InputsStand, IsSound, given_in, seen, sents}
use Rattle.kernel_trace.specs.Input.{Found, HoldsMessage, MayAsk, Waits}
use Rattle.kernel_trace.specs.Traced.{IsPresent, IsServed, IsSession, IsThere, IsUnknown, TracedView, account, arrived_at, nobody, sent_at}
use Rattle.kernel_trace.specs.Traced.{Sent, first_spool, next_of, numbered, session_at, with_numbered}
use Rattle.kernel_trace.specs.declared.TracedKernel.TheInside.{Inside}
use Rattle.kernel_trace.specs.declared.input.Input.{Input}
use Rattle.kernel_trace.proofs.Events.{account_in, IsServed-arrives, IsServed-joins, IsServed-kernel, IsServed-leaves, IsServed-makes}
use Rattle.kernel_trace.proofs.Events.{IsServed-gives, IsServed-serves, gives, more_at}
use Rattle.synchrony.specs.Framing.{next_in}
use Rattle.kernel_trace.proofs.Marks.{AreMarked-along, marked_arrives, marked_makes, marked_serves}
use Rattle.kernel_trace.proofs.Inputs.{Found-waits, Waits-may, Waits-served, next_fits}
use Rattle.kernel_trace.proofs.Seats.{Given, by_number, eqb-other, one_gives}
use Rattle.kernel_trace.proofs.Seats.{ready_gives, seat_in, seat_in-answered, seat_in-number}
use Rattle.kernel_trace.proofs.Seats.{seat_in-joined, seat_in-left, updated-other, updated-same}
use Rattle.kernel_trace.proofs.Sessions.{length-with_released, length-with_sent, numbered-pushed, numbered-set, numbered-within, one_known}
use Rattle.kernel_trace.proofs.Sessions.{ready_known, session_at-past}

pub IsSound-along : {old new : TracedView} {inputs inputs' : List Input} → new ≡ old → inputs' ≡ inputs → IsSound old inputs
    → IsSound new inputs'
IsSound-along a b h = subst (λ (t : TracedView × List Input). IsSound t.0 t.1) (λ i. (sym a i, sym b i)) h

-- the fields with these in place of what changes without a session being served
abbrev pub with_fields : Inside → KernelView → List Sent → List (Entry Change Mark) → TracedView
with_fields s kernel sessions trace = record { kernel = kernel; first = s.first; sessions = sessions; trace = trace; ready = s.ready }

pub same_fields : (s : Inside) {kernel : KernelView} {sessions : List Sent} {trace : List (Entry Change Mark)} → kernel ≡ s.kernel
    → sessions ≡ sents s.peers.items → trace ≡ s.trace.items → with_fields s kernel sessions trace ≡ seen s
same_fields s a b c = λ i. with_fields s (a i) (b i) (c i)

-- ---- inputs by their numbers

pub numbered-with : {A : Type 0} (xs : List A) (number : ℕ) (x old : A) → numbered xs number ≡ Some old → (k : ℕ)
    → numbered (with_numbered xs number x) k ≡ updated (numbered xs) number (Some x) k
numbered-with xs zero x old is = absurd (cc is)
numbered-with xs (suc n) x old is = numbered-set xs n x old is

pub length-with : {A : Type 0} (xs : List A) (number : ℕ) (x : A) → length (with_numbered xs number x) ≡ length xs
length-with xs zero x = refl
length-with xs (suc n) x = length-set xs n x

-- one input is another, or new; each of the other sessions that are there was there before, and stands as before
Inputs-updated : (old new : ℕ → Connection Session) (inputs : ℕ → Option Input) (seats seats' : ℕ → Option Seat) (number : ℕ)
    (input : Input)
    → ((k : ℕ) → k ≢ number → (seat : Seat) → seats' k ≡ Some seat → (s : Seat) × (seats k ≡ Some s) × (new k ≡ old k))
    → ((seat : Seat) (mode : Mode) → seats' number ≡ Some seat → mode_of (new number).session.awaits ≡ Some mode
    → Waits input mode (new number).pending)
    → InputsStand old inputs seats → InputsStand new (updated inputs number (Some input)) seats'
Inputs-updated old new inputs seats seats' number input others here h =
    by_number (λ k. (i : Input) (seat : Seat) (mode : Mode) → updated inputs number (Some input) k ≡ Some i → seats' k ≡ Some seat
    → mode_of (new k).session.awaits ≡ Some mode → Waits i mode (new k).pending) number
    (λ i seat mode is there awaits. let same : input ≡ i = cc (sym (updated-same inputs number (Some input)) ∙ is) in
    subst (λ x. Waits x mode (new number).pending) same (here seat mode there awaits))
    (λ k differs i seat mode is there awaits.
    let was = others k differs seat there in
    subst (λ (c : Connection Session). Waits i mode c.pending) (sym was.2)
    (h k i was.0 mode (sym (updated-other inputs number k (Some input) differs)
    ∙ is) was.1 (sym (ap (λ (c : Connection Session). mode_of c.session.awaits) was.2) ∙ awaits)))

pub Inputs-along : {old new : ℕ → Connection Session} {inputs inputs' : ℕ → Option Input} {seats seats' : ℕ → Option Seat} → new ≡ old
    → inputs' ≡ inputs → seats' ≡ seats → InputsStand old inputs seats → InputsStand new inputs' seats'
Inputs-along a b c h = subst (λ (t : (ℕ → Connection Session) × (ℕ → Option Input) × (ℕ → Option Seat)). InputsStand t.0 t.1 t.2)
    (λ i. (sym a i, sym b i, sym c i)) h

-- ---- opening

no_session : {A : Type 0} (number : ℕ) → numbered {A = A} [] number ≡ None
no_session zero = refl
no_session (suc k) = refl

pub sound_opens : (kernel : KernelView) → kernel.durable ≡ length kernel.spool → kernel.joined ≡ 0 → kernel.seats ≡ []
    → IsSound (opens kernel) []
sound_opens kernel durable none nobody_there =
    record {
      beside = record {
        numbers = sym none;
        opening = omega arith;
        durable = omega arith;
        spool = take_all (length kernel.spool) kernel.spool (omega arith);
        finds = tt;
        each = each;
      };
      many = refl;
      stand = λ number input seat mode is there awaits. absurd (let no : None ≡ Some input = sym (no_session number) ∙ is in cc);
      marks = λ more. tt;
    }
  where
    unknown : (number : ℕ) → IsUnknown kernel.host (seat_of kernel number) ((account (opens kernel)).server.connections number)
        ((account (opens kernel)).outputs number)
    unknown number = record {
      nowhere = ap (λ s. seat_in s number) nobody_there;
      fresh = refl;
      silent = ap (λ o. (unwrap_or o nobody).arrived) (no_session number);
      greeted = refl;
    }

    each : (number : ℕ) → IsSession kernel.host kernel.durable (session_at [] number) (seat_of kernel number)
        ((account (opens kernel)).server.connections number) ((account (opens kernel)).outputs number)
    each number = subst (λ o. IsSession kernel.host kernel.durable o (seat_of kernel number)
        ((account (opens kernel)).server.connections number) ((account (opens kernel)).outputs number)) (sym (no_session number))
        (unknown number)

-- ---- join

pub sound_joins : (served : TracedView) (inputs : List Input) (input : Input) → ((mode : Mode) → Waits input mode [])
    → IsSound served inputs → IsSound (joins served) (inputs ++ input ∷ [])
sound_joins served inputs input fresh h =
    record {
      beside = next.0;
      many = length-append inputs (input ∷ []) ∙ (ap (λ n. n + 1) h.many ∙ sym (length-append served.sessions (nobody ∷ [])));
      stand = Inputs-along (ap (λ (a : Account Session Change). a.server.connections) next.1) pushed seats
          (Inputs-updated old old (numbered inputs) (seat_of served.kernel)
          (updated (seat_of served.kernel) number (Some (new_seat served.kernel.host number))) number input
          (λ k differs seat there. (
            seat,
            sym (updated-other (seat_of served.kernel) number k (Some (new_seat served.kernel.host number)) differs) ∙ there,
            refl,
          ))
          (λ seat mode there awaits. subst (λ xs. Waits input mode xs) (sym is_unknown.silent) (fresh mode))
          h.stand);
      marks = AreMarked-along refl refl next.2 refl h.marks;
    }
  where
    next : IsServed (joins served) × (account (joins served) ≡ account served) × (arrived_at (joins served) ≡ arrived_at served)
    next = IsServed-joins served h.beside

    old : ℕ → Connection Session
    old = (account served).server.connections

    number : ℕ
    number = served.kernel.joined + 1

    is_unknown : IsUnknown served.kernel.host (seat_of served.kernel number) ((account served).server.connections number)
        ((account served).outputs number)
    is_unknown =
        subst (λ o. IsSession served.kernel.host served.kernel.durable o (seat_of served.kernel number)
        ((account served).server.connections number) ((account served).outputs number))
        (session_at-past served.sessions number (omega (arith, h.beside.numbers))) (h.beside.each number)

    pushed : numbered (inputs ++ input ∷ []) ≡ updated (numbered inputs) number (Some input)
    pushed = same_functions _ _ (numbered-pushed inputs input number (omega (arith, h.many, h.beside.numbers)))

    seats : seat_of (joined served.kernel) ≡ updated (seat_of served.kernel) number (Some (new_seat served.kernel.host number))
    seats = same_functions _ _ (seat_in-joined served.kernel.seats (new_seat served.kernel.host number) is_unknown.nowhere)

-- ---- the session of a number that is there

pub there_numbered : (served : TracedView) (inputs : List Input) (number : ℕ) (seat : Seat) → seat_of served.kernel number ≡ Some seat
    → IsSound served inputs → (1 ≤ number) × (number ≤ length inputs)
there_numbered served inputs number seat is h = go (session_at served.sessions number) refl (h.beside.each number)
  where
    go : (o : Option _) → session_at served.sessions number ≡ o
        → IsSession served.kernel.host served.kernel.durable o (seat_of served.kernel number) ((account served).server.connections number)
        ((account served).outputs number) → (1 ≤ number) × (number ≤ length inputs)
    go None e u = absurd (let no : None ≡ Some seat = sym u.nowhere ∙ is in cc)
    go (Some sent) e known = let w = numbered-within served.sessions number sent e in (w.0, omega (arith, w.1, h.many))

-- a session with a mode is there
pub mode_there : (kernel : KernelView) (number : ℕ) (mode : Mode) → mode_at kernel number ≡ Some mode
    → (seat : Seat) × (seat_of kernel number ≡ Some seat) × (mode_of seat.session.awaits ≡ Some mode)
mode_there kernel number mode is = go (seat_of kernel number) refl is
  where
    mode_in : Option Seat → Option Mode
    mode_in None = None
    mode_in (Some seat) = mode_of seat.session.awaits

    go : (o : Option Seat) → seat_of kernel number ≡ o → mode_in o ≡ Some mode
        → (seat : Seat) × (seat_of kernel number ≡ Some seat) × (mode_of seat.session.awaits ≡ Some mode)
    go None e m = absurd (cc m)
    go (Some seat) e m = (seat, e, m)

-- it stands as the plain server's, and its input for what waits there
pub connection_mode : (served : TracedView) (number : ℕ) (mode : Mode) → mode_at served.kernel number ≡ Some mode → IsServed served
    → mode_of ((account served).server.connections number).session.awaits ≡ Some mode
connection_mode served number mode is h = go (session_at served.sessions number) (h.each number)
  where
    there : (seat : Seat) × (seat_of served.kernel number ≡ Some seat) × (mode_of seat.session.awaits ≡ Some mode)
    there = mode_there served.kernel number mode is

    go : (o : Option _) → IsSession served.kernel.host served.kernel.durable o (seat_of served.kernel number)
        ((account served).server.connections number) ((account served).outputs number)
        → mode_of ((account served).server.connections number).session.awaits ≡ Some mode
    go None u = absurd (let no : None ≡ Some there.0 = sym u.nowhere ∙ there.1 in cc)
    go (Some sent) known =
        let present : IsPresent there.0 sent ((account served).server.connections number) ((account served).outputs number) =
        subst (λ o. IsThere o sent ((account served).server.connections number) ((account served).outputs number)) there.1 known.there in
        ap (λ (x : Session). mode_of x.awaits) (sym present.session) ∙ there.2

-- what the next message is, by the mode
pub next_by_mode : (served : TracedView) (number : ℕ) (mode : Mode) → mode_at served.kernel number ≡ Some mode → IsServed served
    → next_of served number ≡ next mode ((account served).server.connections number).pending
next_by_mode served number mode is h =
    ap (λ o. next_in next o ((account served).server.connections number).pending) (connection_mode served number mode is h)

some_numbered : {A : Type 0} (xs : List A) (number : ℕ) → 1 ≤ number → number ≤ length xs → (x : A) × (numbered xs number ≡ Some x)
some_numbered xs zero some within = absurd (omega arith)
some_numbered [] (suc k) some within = absurd (omega arith)
some_numbered (x ∷ xs) (suc zero) some within = (x, refl)
some_numbered (x ∷ xs) (suc (suc k)) some within = some_numbered xs (suc k) (omega arith) (omega arith)

-- the input of a session that awaits something
pub input_waits : (served : TracedView) (inputs : List Input) (number : ℕ) (mode : Mode) (input : Input)
    → mode_at served.kernel number ≡ Some mode → IsSound served inputs → numbered inputs number ≡ Some input
    → Waits input mode ((account served).server.connections number).pending
input_waits served inputs number mode input is h at =
    let there = mode_there served.kernel number mode is in
    h.stand number input there.0 mode at there.1 (connection_mode served number mode is h.beside)

pub input_may : (served : TracedView) (inputs : List Input) (number : ℕ) (mode : Mode) → mode_at served.kernel number ≡ Some mode
    → IsSound served inputs → (input : Input) → numbered inputs number ≡ Some input → MayAsk input mode
input_may served inputs number mode is h input at =
    Waits-may input.reader input.message mode ((account served).server.connections number).pending
    (input_waits served inputs number mode input is h at)

-- ---- a message is looked for

-- a session awaits a message, and its input was looked into: whether the message is there is known
pub record Looked (served : TracedView) (inputs : List Input) (number : ℕ) (mode : Mode) (is_found : Bool) : Type 0 where
  pub awaits : mode_at served.kernel number ≡ Some mode
  pub sound : IsSound served inputs
  pub input : Input
  pub at : numbered inputs number ≡ Some input
  pub found : Found is_found input mode ((account served).server.connections number).pending

pub sound_found : (served : TracedView) (inputs inputs' : List Input) (number : ℕ) (mode : Mode) (b : Bool) → IsSound served inputs
    → mode_at served.kernel number ≡ Some mode
    → Becomes inputs inputs' number (λ before after. (stream : List ℕ) → Waits before mode stream → Found b after mode stream)
    → Looked served inputs' number mode b
sound_found served inputs inputs' number mode b h is becomes =
    record {
      awaits = is;
      sound = record {
        beside = h.beside;
        many = ap length now.1 ∙ (length-with inputs number now.0 ∙ h.many);
        stand = Inputs-along {old = connections} {new = connections} refl changed refl
            (Inputs-updated connections connections (numbered inputs) (seat_of served.kernel) (seat_of served.kernel) number now.0
            (λ k differs seat at. (seat, at, refl))
            (λ seat other at awaits.
            let same : mode ≡ other = cc (sym (connection_mode served number mode is h.beside) ∙ awaits) in
            subst (λ m. Waits now.0 m (connections number).pending) same (Found-waits b now.0 mode (connections number).pending found))
            h.stand);
        marks = h.marks;
      };
      input = now.0;
      at = ap (λ f. f number) changed ∙ updated-same (numbered inputs) number (Some now.0);
      found = found;
    }
  where
    connections : ℕ → Connection Session
    connections = (account served).server.connections

    there : (seat : Seat) × (seat_of served.kernel number ≡ Some seat) × (mode_of seat.session.awaits ≡ Some mode)
    there = mode_there served.kernel number mode is

    place : (1 ≤ number) × (number ≤ length inputs)
    place = there_numbered served inputs number there.0 there.1 h

    before : (x : Input) × (numbered inputs number ≡ Some x)
    before = some_numbered inputs number place.0 place.1

    now : (after : Input) × (inputs' ≡ with_numbered inputs number after) × ((stream : List ℕ) → Waits before.0 mode stream
        → Found b after mode stream)
    now = becomes before.0 before.1

    found : Found b now.0 mode ((account served).server.connections number).pending
    found = now.2 (connections number).pending (input_waits served inputs number mode before.0 is h before.1)

    changed : numbered inputs' ≡ updated (numbered inputs) number (Some now.0)
    changed = ap numbered now.1 ∙ same_functions _ _ (numbered-with inputs number now.0 before.0 before.1)

-- ---- arrive

pub sound_arrives : (served : TracedView) (inputs inputs' : List Input) (number : ℕ) (octets : Octets) (mode : Mode)
    → mode_at served.kernel number ≡ Some mode → IsSound served inputs
    → Becomes inputs inputs' number (λ before after. (m : Mode) (stream : List ℕ) → Waits before m stream
    → Waits after m (stream ++ octets)) → IsSound (arrives served number octets) inputs'
sound_arrives served inputs inputs' number octets mode is h becomes =
    record {
      beside = next.0;
      many = ap length now.1 ∙ (length-with inputs number now.0 ∙ (h.many ∙ sym (length-with_sent served.sessions number _)));
      stand = Inputs-along {old = new} {new = new} refl (ap numbered now.1
          ∙ same_functions _ _ (numbered-with inputs number now.0 before.0 before.1)) refl
          (Inputs-updated old new (numbered inputs) (seat_of served.kernel) (seat_of served.kernel) number now.0
          (λ k differs seat at. (seat, at, same k differs))
          (λ seat m at awaits.
          let was : Waits before.0 m (old number).pending =
          h.stand number before.0 seat m before.1 at
          (sym (ap (λ (c : Connection Session). mode_of c.session.awaits) (next.1.connections number)) ∙ awaits) in
          subst (λ (c : Connection Session). Waits now.0 m c.pending) (sym (next.1.connections number))
          (subst (λ xs. Waits now.0 m ((old number).pending ++ xs)) (sym here) (now.2 m (old number).pending was)))
          h.stand);
      marks = marked_arrives served.kernel.host (first_spool served) (arrived_at served) (arrived_at (arrives served number octets))
          (more_at number octets) served.trace next.2 h.marks;
    }
  where
    there : (seat : Seat) × (seat_of served.kernel number ≡ Some seat) × (mode_of seat.session.awaits ≡ Some mode)
    there = mode_there served.kernel number mode is

    next : IsServed (arrives served number octets) × HasMore (more_at number octets) (account served)
        (account (arrives served number octets))
        × ((k : ℕ) → arrived_at (arrives served number octets) k ≡ arrived_at served k ++ more_at number octets k)
    next = IsServed-arrives served number octets there.0 there.1 h.beside

    old : ℕ → Connection Session
    old = (account served).server.connections

    new : ℕ → Connection Session
    new = (account (arrives served number octets)).server.connections

    place : (1 ≤ number) × (number ≤ length inputs)
    place = there_numbered served inputs number there.0 there.1 h

    before : (x : Input) × (numbered inputs number ≡ Some x)
    before = some_numbered inputs number place.0 place.1

    now : (after : Input) × (inputs' ≡ with_numbered inputs number after) × ((m : Mode) (stream : List ℕ) → Waits before.0 m stream
        → Waits after m (stream ++ octets))
    now = becomes before.0 before.1

    here : more_at number octets number ≡ octets
    here = ap (λ b. if b then octets else []) (eqb-same number)

    same : (k : ℕ) → k ≢ number → new k ≡ old k
    same k differs =
        next.1.connections k
        ∙ (ap (with_more (old k)) (ap (λ b. if b then octets else []) (eqb-other k number differs))
        ∙ (λ i. record { session = (old k).session; pending = append-nil (old k).pending i; replies = (old k).replies }))

-- ---- a message is served

pub sound_serves : (served new : TracedView) (inputs inputs' : List Input) (number moment : ℕ) (message : Message) (rest : Octets)
    (outcome : Outcome) (input : Input)
    → next_of served number ≡ Some (message, rest) → Serves served new number moment message outcome → moment < moment_limit
    → IsSound served inputs → numbered inputs number ≡ Some input
    → Becomes inputs inputs' number (λ before after. after ≡ record { reader = before.reader; message = None })
    → ((m : Mode) → Waits (record { reader = input.reader; message = None }) m rest) → IsSound new inputs'
sound_serves served new inputs inputs' number moment message rest outcome input found s before h at becomes waits =
    record {
      beside = next.0;
      many = ap length now.1 ∙ (length-with inputs number now.0 ∙ (h.many ∙ sym (ap length s.sessions)));
      stand = Inputs-along connections (ap numbered now.1 ∙ same_functions _ _ (numbered-with inputs number now.0 input at)) refl
          (Inputs-updated old after (numbered inputs) (seat_of served.kernel) (seat_of new.kernel) number now.0
          (λ k differs seat there. (seat, sym (seats k differs) ∙ there, updated-other old number k reply differs))
          (λ seat m there awaits. subst (λ (c : Connection Session). Waits now.0 m c.pending) (sym (updated-same old number reply))
          (subst (λ x. Waits x m rest) (sym now.2) (waits m)))
          h.stand);
      marks = marked_serves served new number moment message rest outcome found s before next.2 next.3 h.beside h.marks;
    }
  where
    mark : Mark
    mark = outcome.mark

    next : IsServed new × (account new ≡ account_served (service served.kernel.host) (account served) number moment outcome.mark
        (Some (message, rest))) × (first_spool new ≡ first_spool served)
        × (s.kernel.seat.session ≡ ((account served).server.connections number).session)
    next = IsServed-serves served new number moment message rest outcome found s h.beside

    old : ℕ → Connection Session
    old = (account served).server.connections

    connection : Connection Session
    connection = old number

    to : Answer Session Change
    to = (service served.kernel.host).answer (account served).server.spool connection.session message moment mark

    reply : Connection Session
    reply = record { session = to.next; pending = rest; replies = connection.replies ++ to.reply ∷ [] }

    after : ℕ → Connection Session
    after = updated old number reply

    now : (x : Input) × (inputs' ≡ with_numbered inputs number x) × (x ≡ record { reader = input.reader; message = None })
    now = becomes input at

    connections : (account new).server.connections ≡ after
    connections = ap (λ (a : Account Session Change). a.server.connections) next.1

    seats : (k : ℕ) → k ≢ number → seat_of new.kernel k ≡ seat_of served.kernel k
    seats k differs =
        let seat_number : s.kernel.seat.number ≡ number = seat_in-number served.kernel.seats number s.kernel.seat s.kernel.is_there in
        let own : Seat = answered served.kernel message moment mark s.kernel.seat in
        ap (λ xs. seat_in xs k) s.kernel.executed.seats
        ∙ (seat_in-answered served.kernel.seats own s.kernel.seat (ap (seat_in served.kernel.seats) seat_number ∙ s.kernel.is_there) k
        ∙ updated-other (seat_of served.kernel) own.number k (Some own) (λ e. differs (e ∙ seat_number)))

-- ---- the operator's change

pub sound_makes : (served new : TracedView) (inputs : List Input) (change : Change) (serial : ℕ) → Makes served new change serial
    → IsSound served inputs → IsSound new inputs
sound_makes served new inputs change serial m h =
    let next = IsServed-makes served new change serial m h.beside in
    record {
      beside = next.0;
      many = h.many ∙ sym (ap length m.sessions);
      stand = Inputs-along (ap (λ (a : Account Session Change). a.server.connections) next.1) refl (ap seat_in m.kernel.rest.2) h.stand;
      marks = AreMarked-along m.kernel.rest.0 next.2 (ap (λ xs k. (sent_at xs k).arrived) m.sessions) m.trace
          (marked_makes served.kernel.host (first_spool served) (arrived_at served) served.trace change h.marks);
    }

-- fewer sessions are there
fewer : (connections : ℕ → Connection Session) (inputs : ℕ → Option Input) (seats seats' : ℕ → Option Seat)
    → ((k : ℕ) (seat : Seat) → seats' k ≡ Some seat → (s : Seat) × (seats k ≡ Some s)) → InputsStand connections inputs seats
    → InputsStand connections inputs seats'
fewer connections inputs seats seats' were h number input seat mode at there awaits = let was = were number seat there in
    h number input was.0 mode at was.1 awaits

-- ---- a session leaves

pub sound_leaves : (served : TracedView) (inputs : List Input) (number : ℕ) → IsSound served inputs → IsSound (leaves served number) inputs
sound_leaves served inputs number h =
    let next = IsServed-leaves served number h.beside in
    record {
      beside = next.0;
      many = h.many ∙ sym (many (is_some (seat_of served.kernel number)));
      stand = Inputs-along (ap (λ (a : Account Session Change). a.server.connections) next.1) refl
          (same_functions _ _ (seat_in-left number served.kernel.seats))
          (fewer (account served).server.connections (numbered inputs) (seat_of served.kernel) (updated (seat_of served.kernel) number None)
          (by_number (λ k. (seat : Seat) → updated (seat_of served.kernel) number None k ≡ Some seat
          → (s : Seat) × (seat_of served.kernel k ≡ Some s)) number
          (λ seat is. absurd (let no : None ≡ Some seat = sym (updated-same (seat_of served.kernel) number None) ∙ is in cc))
          (λ k differs seat is. (seat, sym (updated-other (seat_of served.kernel) number k None differs) ∙ is)))
          h.stand);
      marks = AreMarked-along refl refl next.2 refl h.marks;
    }
  where
    many : (b : Bool) → length (if b then with_numbered served.sessions number (record (sent_at served.sessions number) { left = true })
        else served.sessions) ≡ length served.sessions
    many true = length-with served.sessions number _
    many false = refl

-- ---- a release

sound_gives : (served : TracedView) (inputs : List Input) (given : Ready) → AreKnown served.sessions given.entries
    → ((k : ℕ) → Given served.kernel.durable (seat_of served.kernel k) (seat_in given.seats k) (given_in k given.entries))
    → IsSound served inputs
    → IsSound (gives served given) inputs
sound_gives served inputs given known gave h =
    let next = IsServed-gives served given known gave h.beside in
    record {
      beside = next.0;
      many = h.many ∙ sym (length-with_released served.sessions given.entries);
      stand = Inputs-along (ap (λ (a : Account Session Change). a.server.connections) next.1) refl refl
          (fewer (account served).server.connections (numbered inputs) (seat_of served.kernel) (seat_in given.seats)
          (λ k seat is. was (seat_of served.kernel k) (seat_in given.seats k) _ (gave k) seat is)
          h.stand);
      marks = AreMarked-along refl refl next.2 refl h.marks;
    }
  where
    was : (o after : Option Seat) (octets : List ℕ) → Given served.kernel.durable o after octets → (seat : Seat) → after ≡ Some seat
        → (s : Seat) × (o ≡ Some s)
    was None after octets g seat is = absurd (let no : None ≡ Some seat = sym g.0 ∙ is in cc)
    was (Some s) after octets g seat is = (s, refl)

pub sound_releases : (served : TracedView) (inputs : List Input) → IsKept served.kernel → IsSound served inputs
    → IsSound (releases served) inputs
sound_releases served inputs kept h =
    sound_gives served inputs (ready served.kernel.durable 65536 served.kernel.seats)
    (ready_known served.kernel.host served.kernel.spool served.kernel.joined served.kernel.durable 65536 served.sessions served.kernel.seats
    h.beside.numbers kept.seats)
    (ready_gives 0 served.kernel.durable 65536 served.kernel.seats kept.rising) h

pub sound_releases_of : (served : TracedView) (inputs : List Input) (number room : ℕ) → IsKept served.kernel → IsSound served inputs
    → IsSound (releases_of served number room) inputs
sound_releases_of served inputs number room kept h =
    sound_gives served inputs (given_within served.kernel (min room 65536) number)
    (one_known served.kernel.host served.kernel.spool served.kernel.joined served.kernel.durable (min room 65536) number served.sessions
    served.kernel.seats h.beside.numbers kept.seats)
    (one_gives served.kernel.durable (min room 65536) number served.kernel.seats) h

-- ---- the kernel alone

pub sound_kernel : (served : TracedView) (kernel : KernelView) (inputs : List Input) → kernel.host ≡ served.kernel.host
    → kernel.spool ≡ served.kernel.spool → kernel.seats ≡ served.kernel.seats → kernel.joined ≡ served.kernel.joined
    → served.kernel.durable ≤ kernel.durable → kernel.durable ≤ length kernel.spool → IsSound served inputs
    → IsSound (with_kernel served kernel) inputs
sound_kernel served kernel inputs host spool seats joined more within h =
    record {
      beside = IsServed-kernel served kernel host spool seats joined more within h.beside;
      many = h.many;
      stand = Inputs-along (λ i. (account_in (host i) (take served.first (spool i)) (arrived_at served) served.trace).server.connections)
          refl (ap seat_in seats) h.stand;
      marks = AreMarked-along host (ap (take served.first) spool) refl refl h.marks;
    }

-- ---- tests in their order

pub tested_ok : {A E V : Type 0} (as_error : Refusal → E) (memory : E) (refusal : Option Refusal) (old new : V) (x : A) (done : A → Type 0)
    → Tested as_error memory refusal old new (Ok x) done → (refusal ≡ None) × done x
tested_ok as_error memory None old new x done h = (refl, h)
tested_ok as_error memory (Some r) old new x done h = absurd (cc (h.0))

-- a refusal, by its test or for memory
abbrev pub IsRefused : {E V : Type 0} → (Refusal → E) → E → Option Refusal → Option Refusal → V → V → E → Type 0
IsRefused as_error memory early refusal old new error =
    (((error ≡ memory) × (early ≡ None)) ⊎ ((r : Refusal) × (refusal ≡ Some r) × (error ≡ as_error r))) × (new ≡ old)

abbrev pub err_of : {A E : Type 0} → E → Result A E → E
err_of e (Ok x) = e
err_of e (Err y) = y

pub tested_err : {A E V : Type 0} (as_error : Refusal → E) (memory : E) (refusal : Option Refusal) (old new : V) (e : E) (done : A → Type 0)
    → Tested as_error memory refusal old new (Err e) done → IsRefused as_error memory None refusal old new e
tested_err as_error memory None old new e done h = (inl (h.0, refl), h.1)
tested_err {A} as_error memory (Some r) old new e done h = (inr (r, refl, ap (err_of {A = A} e) h.0), h.1)

-- ---- what exec did

abbrev pub DidAt : TracedView → ℕ → ℕ → Result (Option Outcome) ExecError → TracedView → Type 0
DidAt served number moment result new = DidExec served number moment (mode_at served.kernel number) (next_of served number) result new

did_by : (served new : TracedView) (number moment : ℕ) (result : Result (Option Outcome) ExecError) (m : Option Mode)
    (found : Option (Message × Octets)) → mode_at served.kernel number ≡ m → next_of served number ≡ found
    → DidExec served number moment m found result new → DidAt served number moment result new
did_by served new number moment result m found is is' h =
    subst (λ (t : Option Mode × Option (Message × Octets)). DidExec served number moment t.0 t.1 result new) (λ i. (sym is i, sym is' i)) h

pub did_none : (served new : TracedView) (number moment : ℕ) (mode : Mode) → mode_at served.kernel number ≡ Some mode
    → next_of served number ≡ None → new ≡ served → DidAt served number moment (Ok None) new
did_none served new number moment mode is none same = did_by served new number moment (Ok None) (Some mode) None is none (refl, same)

pub did_refused : (served new : TracedView) (number moment : ℕ) (mode : Mode) (found : Message × Octets) (error : ExecError)
    → mode_at served.kernel number ≡ Some mode → next_of served number ≡ Some found
    → IsRefused of_exec exec.Memory None (exec_refusal served.kernel number found.0) served new error
    → DidAt served number moment (Err error) new
did_refused served new number moment mode found error is is' h =
    did_by served new number moment (Err error) (Some mode) (Some found) is is' h

pub did_serve : (served new : TracedView) (number moment : ℕ) (mode : Mode) (found : Message × Octets) (outcome : Outcome)
    → mode_at served.kernel number ≡ Some mode → next_of served number ≡ Some found
    → exec_refusal served.kernel number found.0 ≡ None → Serves served new number moment found.0 outcome
    → DidAt served number moment (Ok (Some outcome)) new
did_serve served new number moment mode found outcome is is' none h =
    did_by served new number moment (Ok (Some outcome)) (Some mode) (Some found) is is' (none, (outcome, refl, h))

-- the message that was found
pub record FoundThere (served : TracedView) (inputs : List Input) (number : ℕ) (message : Message) : Type 0 where
  pub rest : Octets
  pub input : Input
  pub at : numbered inputs number ≡ Some input
  pub next_is : next_of served number ≡ Some (message, rest)
  pub fits : FitsMode (mode_at served.kernel number) message
  pub waits : (m : Mode) → Waits (record { reader = input.reader; message = None }) m rest

module _ {served : TracedView} {inputs : List Input} {number : ℕ} {mode : Mode} {b : Bool} (l : Looked served inputs number mode b) where
  abbrev pending : Octets
  pending = ((account served).server.connections number).pending

  -- the session's place among the peers
  pub within : number ≤ length inputs
  within = let seat = mode_there served.kernel number mode l.awaits in (there_numbered served inputs number seat.0 seat.1 l.sound).1

  pub found_none : b ≡ false → next_of served number ≡ None
  found_none off =
      next_by_mode served number mode l.awaits l.sound.beside ∙ (subst (λ x. Found x l.input mode pending) off l.found).0

  is_found : b ≡ true → Found true l.input mode pending
  is_found on = subst (λ x. Found x l.input mode pending) on l.found

  pub found_message : (message : Message) → b ≡ true → l.input.message ≡ Some message → FoundThere served inputs number message
  found_message message on at =
      let found = is_found on in
      let holds : HoldsMessage l.input mode pending found.0 = found.2 in
      let same : found.0 ≡ message = some_is (sym found.1 ∙ at) in
      record {
        rest = holds.0;
        input = l.input;
        at = l.at;
        next_is = next_by_mode served number mode l.awaits l.sound.beside ∙ (holds.1 ∙ ap (λ x. Some (x, holds.0)) same);
        fits = subst (λ (t : Option Mode × Message). FitsMode t.0 t.1) (λ i. (sym l.awaits i, same i))
            (next_fits mode pending holds.0 found.0 holds.1);
        waits = λ m. Waits-served l.input.reader found.0 mode m pending holds;
      }
    where
      some_is : {x y : Message} → Some x ≡ Some y → x ≡ y
      some_is e = cc e

  pub found_some : b ≡ true → l.input.message ≡ None → ⊥
  found_some on none = absurd (let no : None ≡ Some (is_found on).0 = sym none ∙ (is_found on).1 in cc)

pub look_some : {T : Type 0} (r : Option T) (x : T) (P : Type 0) (Q : T → Type 0) → r ≡ Some x → MatchOption r P Q → Q x
look_some None x P Q is h = absurd (cc is)
look_some (Some y) x P Q is h = let same : y ≡ x = cc is in subst Q same h

-- ---- a session that is not there leaves nothing

filter_none : (number : ℕ) (seats : List Seat) → seat_in seats number ≡ None
    → filter (λ (seat : Seat). not (seat.number == number)) seats ≡ seats
filter_none number [] none = refl
filter_none number (first ∷ seats) none = go (first.number == number) none (filter_none number seats)
  where
    go : (b : Bool) → (if b then Some first else seat_in seats number) ≡ None
        → (seat_in seats number ≡ None → filter (λ (seat : Seat). not (seat.number == number)) seats ≡ seats)
        → (if not b then first ∷ filter (λ (seat : Seat). not (seat.number == number)) seats else filter
        (λ (seat : Seat). not (seat.number == number)) seats) ≡ first ∷ seats
    go true is later = absurd (cc is)
    go false is later = ap (λ xs. first ∷ xs) (later is)

pub leaves_none : (served : TracedView) (number : ℕ) → seat_of served.kernel number ≡ None → leaves served number ≡ served
leaves_none served number none =
    λ i. record served {
      kernel = record served.kernel { seats = filter_none number served.kernel.seats none i };
      sessions = ap (λ o. if is_some o then with_numbered served.sessions number (record (sent_at served.sessions number) { left = true })
          else served.sessions) none i;
    }

pub leaves_there : (served : TracedView) (number : ℕ) (seat : Seat) → seat_of served.kernel number ≡ Some seat
    → (leaves served number).sessions ≡ with_numbered served.sessions number (record (sent_at served.sessions number) { left = true })
leaves_there served number seat is =
    ap (λ o. if is_some o then with_numbered served.sessions number (record (sent_at served.sessions number) { left = true }) else
    served.sessions) is

-- ---- the kernel alone, by what became of it

pub sound_batch : {T : Type 0} (served : TracedView) (kernel : KernelView) (inputs : List Input) (o : Option T)
    → (IsNone o → kernel ≡ served.kernel) → IfSome o (λ t. kernel ≡ taken served.kernel) → IsSound served inputs
    → IsSound (with_kernel served kernel) inputs
sound_batch served kernel inputs None none some h = subst (λ k. IsSound (with_kernel served k) inputs) (sym (none refl)) h
sound_batch served kernel inputs (Some t) none some h =
    subst (λ k. IsSound (with_kernel served k) inputs) (sym some)
    (sound_kernel served (taken served.kernel) inputs refl refl refl refl (omega arith) h.beside.durable h)

pub sound_halts : (served : TracedView) (inputs : List Input) → IsSound served inputs
    → IsSound (with_kernel served (halted_for_good served.kernel)) inputs
sound_halts served inputs h = sound_kernel served (halted_for_good served.kernel) inputs refl refl refl refl
    (omega arith) h.beside.durable h

pub sound_durable : (served : TracedView) (inputs : List Input) (last : ℕ) → IsKept served.kernel → served.kernel.in_flight ≡ Some last
    → IsSound served inputs → IsSound (with_kernel served (made_durable served.kernel last)) inputs
sound_durable served inputs last kept flies h =
    let le : (served.kernel.durable ≤ last) × (last ≤ length served.kernel.spool) =
    subst (λ o. IfSome o (λ n. (served.kernel.durable ≤ n) × (n ≤ length served.kernel.spool))) flies kept.flying in
    sound_kernel served (made_durable served.kernel last) inputs refl refl refl refl le.0 le.1 h

pub sound_committed : {E : Type 0} (served : TracedView) (kernel : KernelView) (inputs : List Input) (last : ℕ) (r : Result (Unit {0}) E)
    → IsKept served.kernel
    → IfOk r (λ done. (served.kernel.in_flight ≡ Some last) × (served.kernel.halted ≡ false) × (kernel ≡ made_durable served.kernel last))
    → OnErr r (((served.kernel.in_flight ≢ Some last) ⊎ (served.kernel.halted ≡ true)) × (kernel ≡ served.kernel))
    → IsSound served inputs → IsSound (with_kernel served kernel) inputs
sound_committed served kernel inputs last (Ok done) kept ok stale h =
    subst (λ k. IsSound (with_kernel served k) inputs) (sym ok.2) (sound_durable served inputs last kept ok.0 h)
sound_committed served kernel inputs last (Err e) kept ok stale h = subst (λ k. IsSound (with_kernel served k) inputs) (sym stale.1) h

pub at_ok : {T E A : Type 0} (r : Result T E) → is_err r ≡ false → OnOk r A → A
at_ok (Ok x) is h = h
at_ok (Err e) is h = absurd (cc is)
