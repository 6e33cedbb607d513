-- The marks of a trace stay those that a kernel gives.
use Rattle.std.proofs.Common.{◌≡◌, ℕ, ◌<◌, Bool, true, false, List, [], ◌∷◌, ◌++◌, Option, Some, None, refl, ap, sym, ◌∙◌, subst}
use Rattle.std.proofs.Common.{append_assoc}
use Rattle.std.specs.Prelude.{is_some, if◌then◌else◌}
use Rattle.kernel.specs.Kernel.{KernelView, mark_for}
use Rattle.kernel_seats.specs.declared.Outcome.{Outcome}
use Rattle.model.specs.Calendar.{moment_limit}
use Rattle.model.specs.News.{answer, is_long, service}
use Rattle.model.specs.Room.{is_full}
use Rattle.model.specs.Spool.{Spool}
use Rattle.model.specs.Stream.{Octets}
use Rattle.model.specs.declared.change.Change.{Change}
use Rattle.model.specs.declared.message.Mark.{Mark}
use Rattle.model.specs.declared.message.Mark.TheVariants as marks
use Rattle.model.specs.declared.message.Message.{Message}
use Rattle.model.specs.declared.session.Session.{Session}
use Rattle.model.proofs.NewsLaws.{lawful}
use Rattle.model_rfc.specs.Marks.{EachIsMarked, IsMarked, MayMark}
use Rattle.model_rfc.specs.Serving.{Server}
use Rattle.synchrony.specs.Progress.{HasMore}
use Rattle.synchrony.specs.Server.{Admin, Command, Connection, Entry, opened, run, step, taken}
use Rattle.synchrony.proofs.Fronts.{same_functions}
use Rattle.synchrony.proofs.GoingOn.{arrivals_only_wait}
use Rattle.synchrony.proofs.Theorems.{account_sync}
use Rattle.kernel_trace.specs.Events.{Serves}
use Rattle.kernel_trace.specs.Marks.{AreMarked, AreMarkedIn}
use Rattle.kernel_trace.specs.Traced.{IsServed, Trace, TracedView, account, arrived_at, first_spool, next_of, sent_at}
use Rattle.kernel_trace.proofs.Events.{account_in}

pub AreMarked-along : {host host' : Octets} {S S' : Spool} {inputs inputs' : ℕ → Octets} {trace trace' : Trace} → host' ≡ host → S' ≡ S
    → inputs' ≡ inputs → trace' ≡ trace → AreMarkedIn host S inputs trace → AreMarkedIn host' S' inputs' trace'
AreMarked-along a b c d h =
    subst (λ (t : Octets × Spool × (ℕ → Octets) × Trace). AreMarkedIn t.0 t.1 t.2 t.3) (λ i. (sym a i, sym b i, sym c i, sym d i)) h

-- ---- more octets

pub marked_arrives : (host : Octets) (S : Spool) (inputs later more : ℕ → Octets) (trace : Trace)
    → ((number : ℕ) → later number ≡ inputs number ++ more number) → AreMarkedIn host S inputs trace → AreMarkedIn host S later trace
marked_arrives host S inputs later more trace is h rest =
    let all : (λ number. later number ++ rest number) ≡ (λ number. inputs number ++ (more number ++ rest number)) =
    same_functions _ _ (λ number. ap (λ (o : Octets). o ++ rest number) (is number)
    ∙ append_assoc (inputs number) (more number) (rest number)) in
    subst (λ f. EachIsMarked host (opened (service host) S f) trace) (sym all) (h (λ number. more number ++ rest number))

-- ---- one more entry

marked_more : (host : Octets) (trace : Trace) (entry : Entry Change Mark) (server : Server) → EachIsMarked host server trace
    → IsMarked host (run (service host) server trace) entry → EachIsMarked host server (trace ++ entry ∷ [])
marked_more host [] entry server h one = (one, tt)
marked_more host (first ∷ trace) entry server h one = (h.0, marked_more host trace entry (step (service host) server first) h.1 one)

pub marked_makes : (host : Octets) (S : Spool) (inputs : ℕ → Octets) (trace : Trace) (change : Change) → AreMarkedIn host S inputs trace
    → AreMarkedIn host S inputs (trace ++ Admin change ∷ [])
marked_makes host S inputs trace change h more =
    marked_more host trace (Admin change) (opened (service host) S (λ number. inputs number ++ more number)) (h more) tt

-- a change that finds no room is one
full_some : (blocks : List Octets) (inodes : ℕ) (S : Spool) (o : Option Change) → is_full blocks inodes S o ≡ true → is_some o ≡ true
full_some blocks inodes S None is = absurd (cc is)
full_some blocks inodes S (Some c) is = refl

-- the mark that a kernel gives
kernel_marks : (kernel : KernelView) (x : Session) (m : Message) (t : ℕ)
    → MayMark kernel.host kernel.spool x m t (mark_for kernel x m t)
kernel_marks kernel x m t =
    go kernel.halted (is_long kernel.host kernel.spool x m) (is_full kernel.blocks kernel.inodes kernel.spool change) (λ long. long)
    (full_some kernel.blocks kernel.inodes kernel.spool change)
  where
    change : Option Change
    change = (answer kernel.host kernel.spool x m t marks.Served).change

    go : (halted long full : Bool) → (long ≡ true → is_long kernel.host kernel.spool x m ≡ true)
        → (full ≡ true → is_some (answer kernel.host kernel.spool x m t marks.Served).change ≡ true)
        → MayMark kernel.host kernel.spool x m t
        (if halted then marks.Stopped else if long then marks.Long else if full then marks.Full else marks.Served)
    go true long full l f = record { long = λ e. absurd (cc e); full = λ e. absurd (cc e) }
    go false true full l f = record { long = λ e. l refl; full = λ e. absurd (cc e) }
    go false false true l f = record { long = λ e. absurd (cc e); full = λ e. f refl }
    go false false false l f = record { long = λ e. absurd (cc e); full = λ e. absurd (cc e) }

pub marked_serves : (old new : TracedView) (number moment : ℕ) (message : Message) (rest : Octets) (outcome : Outcome)
    → next_of old number ≡ Some (message, rest) → (s : Serves old new number moment message outcome) → moment < moment_limit
    → first_spool new ≡ first_spool old → s.kernel.seat.session ≡ ((account old).server.connections number).session
    → IsServed old → AreMarked old → AreMarked new
marked_serves old new number moment message rest outcome found s before first_is session_is h marked =
    AreMarked-along s.kernel.executed.host first_is (ap (λ xs k. (sent_at xs k).arrived) s.sessions) s.trace all
  where
    host : Octets
    host = old.kernel.host

    entry : Entry Change Mark
    entry = Command number moment outcome.mark

    Marks : Server → Type 0
    Marks server = (next : Message × Octets) → taken (service old.kernel.host) server number ≡ Some next
        → MayMark old.kernel.host server.spool (server.connections number).session next.0 moment outcome.mark

    pick : Option (Message × Octets) → Message
    pick None = message
    pick (Some next) = next.0

    later : (ℕ → Octets) → ℕ → Octets
    later more k = arrived_at old k ++ more k

    waits : (more : ℕ → Octets) → HasMore more (account old) (account_in host (first_spool old) (later more) old.trace)
    waits more = (arrivals_only_wait (service host) (lawful host) (first_spool old) (arrived_at old) (later more) more old.trace
        (λ k. refl) h.finds).0

    one : (more : ℕ → Octets) → Marks (account_in old.kernel.host (first_spool old) (later more) old.trace).server
    one more next is =
        let more_waits = waits more in
        let connection : Connection Session = (account old).server.connections number in
        let found_now : taken (service host) (account_in host (first_spool old) (later more) old.trace).server number
        ≡ Some (message, rest ++ more number) =
        ap (λ (c : Connection Session). (service host).next_message c.session c.pending) (more_waits.connections number)
        ∙ (lawful host).framing connection.session connection.pending (more number) message rest found in
        let same : message ≡ next.0 = ap pick (sym found_now ∙ is) in
        let session_now = session_is ∙ sym (ap (λ (c : Connection Session). c.session) (more_waits.connections number)) in
        let spool_now = sym h.spool ∙ sym more_waits.spool in
        subst (λ (t : Spool × Session × Message × Mark). MayMark old.kernel.host t.0 t.1 t.2 moment t.3)
        (λ i. (spool_now i, session_now i, same i, sym s.kernel.mark_is i))
        (kernel_marks old.kernel s.kernel.seat.session message moment)

    all : AreMarkedIn old.kernel.host (first_spool old) (arrived_at old) (old.trace ++ Command number moment outcome.mark ∷ [])
    all more =
        let server : Server = opened (service host) (first_spool old) (later more) in
        marked_more host old.trace entry server (marked more)
        (before, subst Marks (account_sync (service host) (first_spool old) (later more) old.trace) (one more))
