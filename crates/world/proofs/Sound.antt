-- What the fields keep, through each event.
use Rattle.std.proofs.Common.{◌≡◌, ◌≢◌, ◌⊎◌, ◌↔◌, ◌==◌, inl, inr, ⊎_elim, ℕ, ◌+◌, Bool, true, false, List, [], ◌∷◌, ◌++◌, length}
use Rattle.std.proofs.Common.{Option, Some, None, refl, ap, sym, ◌∙◌, subst}
use Rattle.std.proofs.lemmas.Bool.{eqb-true, eqb-false}
use Rattle.std.proofs.lemmas.List.{append-nil}
use Rattle.disk.specs.Device.{Device}
use Rattle.journal.specs.Calls.{MakesCall, OnMade}
use Rattle.journal.specs.Order.{is_to_commit, answer as journal_answer}
use Rattle.journal.specs.declared.JournalError.{JournalError}
use Rattle.journal.specs.declared.JournalError.TheVariants as journal
use Rattle.journal.proofs.Waiting.{committed_at}
use Rattle.journal.specs.declared.Next.TheVariants as next
use Rattle.journal.specs.declared.Progress.{Progress}
use Rattle.journal.specs.declared.Progress.TheVariants as progress
use Rattle.kernel_seats.specs.declared.Outcome.{Outcome}
use Rattle.kernel.specs.Kernel as refusal
use Rattle.kernel_shared.specs.declared.errors.ExecError.TheVariants as exec
use Rattle.world.specs.declared.events.StepAnswer.TheVariants as answer
use Rattle.std.specs.Prelude.{drop, ◌||◌, ◌&&◌, not, is_none, nat_le, nat_lt, IfOk, map, option_map, slice_index_or, OnErr, OnOk, Result}
use Rattle.std.specs.Prelude.{Ok, Err, IsTrue, if◌then◌else◌}
use Rattle.journal.specs.Journal.{IsReady, JournalView, begins, sizes}
use Rattle.kernel.specs.Errors.{of_exec}
use Rattle.kernel.specs.Kernel.{AgreesBehind, KernelView, halted_for_good, made_durable, Refusal, Takes, Tested, TestedOrMemory, buffered}
use Rattle.kernel.specs.Kernel.{admin_refusal_of, exec_refusal, expire_refusal_of, first_failing, has_batch, is_block, mode_at, most_dirty}
use Rattle.kernel.specs.Kernel.{taken}
use Rattle.kernel_seats.specs.Seats.{Seat}
use Rattle.kernel.specs.Kept.{IsKept}
use Rattle.kernel_shared.specs.declared.ticket.Ticket.{Ticket}
use Rattle.kernel_shared.specs.declared.errors.ExecError.{ExecError}
use Rattle.model.specs.Stream.{Octets}
use Rattle.model.specs.Volume.{laid_over}
use Rattle.model.specs.declared.change.Change.{Change}
use Rattle.model.specs.declared.message.Mark.{Mark}
use Rattle.model.specs.declared.message.Message.{Message}
use Rattle.model.specs.declared.message.Mode.{Mode}
use Rattle.kernel_trace.specs.Events.{DidExec as ServedExec, releases, releases_of, with_kernel}
use Rattle.kernel_trace.specs.Traced.{TracedView}
use Rattle.kernel_trace.proofs.Sound.{err_of}
use Rattle.world.specs.Events.{DidExec, DidStop, Steps, begun, commits, exec_answer, fails, news_of, of_exec_error, of_kernel, told}
use Rattle.world.specs.Fields.{IsSound, durable_news, failed_news, news_in}
use Rattle.world.specs.Tied.{AreFaults, AreFaultsOrStopped, IsTied, Phase, Quiet, Flying, IsToBeTold}
use Rattle.world.specs.World.{IsDurable, HasFailed, News, WorldView, kernel_of, with_served}
use Rattle.world.proofs.Tying.{Grows, Grows-executed, Grows-refl, IsTied-grows, IsTied-steps, IsTied-takes, IsTied-told_durable}
use Rattle.world.proofs.Tying.{IsTied-stops, IsTied-told_failed, batch_parts}

-- ---- the sessions and the kernel's changes go on

pub sound_grows : {D : Type 0} (tells : Bool) (old : WorldView D) (served : TracedView) (ticket : Option Ticket) → IsKept (kernel_of old)
    → Grows (kernel_of old) served.kernel → IsSound tells old ticket → IsSound tells (with_served old served) ticket
sound_grows tells old served ticket kept g h =
    record { tied = IsTied-grows tells old served kept g h.tied; flies = h.flies ∙ sym g.in_flight }

pub sound_same : {D : Type 0} (tells : Bool) (old : WorldView D) (served : TracedView) (ticket : Option Ticket) → served ≡ old.served
    → IsSound tells old ticket → IsSound tells (with_served old served) ticket
sound_same tells old served ticket same h = subst (λ s. IsSound tells (with_served old s) ticket) (sym same) h

-- the kernel's sessions alone change
pub Grows-seats : (old new : KernelView) (joined : ℕ) (seats : List Seat) → new ≡ record old { joined = joined; seats = seats }
    → Grows old new
Grows-seats old new joined seats is = subst (Grows old) (sym is) (Grows-refl old joined seats)

pub tested_or : {A E V : Type 0} (as_error : Refusal → E) (memory : E) (refusal : Option Refusal) (old new : V) (r : Result A E) (done : A
    → Type 0) → Tested as_error memory refusal old new r done → TestedOrMemory as_error memory None refusal old new r done
tested_or as_error memory (Some refusal) old new (Ok x) done h = absurd (cc (h.0))
tested_or {A} as_error memory (Some refusal) old new (Err e) done h = (inr (refusal, refl, ap (err_of {A = A} e) h.0), h.1)
tested_or as_error memory None old new (Ok x) done h = (refl, h)
tested_or as_error memory None old new (Err e) done h = (inl (h.0, refl), h.1)

pub sound_tested : {A E D : Type 0} (as_error : Refusal → E) (memory : E) (early refusal : Option Refusal) (tells : Bool)
    (old : WorldView D) (served : TracedView) (ticket : Option Ticket) (r : Result A E) (done : A → Type 0)
    → ((x : A) → refusal ≡ None → done x → Grows (kernel_of old) served.kernel) → IsKept (kernel_of old)
    → TestedOrMemory as_error memory early refusal old.served served r done → IsSound tells old ticket
    → IsSound tells (with_served old served) ticket
sound_tested as_error memory early refusal tells old served ticket (Ok x) done grows kept t h =
    sound_grows tells old served ticket kept (grows x t.0 t.1) h
sound_tested as_error memory early refusal tells old served ticket (Err e) done grows kept t h = sound_same tells old served ticket t.1 h

-- a test that did not fail
test_passed : (failed : Bool) (r : Refusal) (others : Option Refusal) → (if failed then Some r else others) ≡ None → failed ≡ false
test_passed true r others none = absurd (cc none)
test_passed false r others none = refl

pub admin_runs : (kernel : KernelView) (change : Change) → admin_refusal_of kernel change ≡ None → kernel.halted ≡ false
admin_runs kernel change none = test_passed kernel.halted refusal.Halted _ none

pub expire_runs : (kernel : KernelView) (change : Change) → expire_refusal_of kernel change ≡ None → kernel.halted ≡ false
expire_runs kernel change none = test_passed kernel.halted refusal.Halted _ none

pub sound_exec : {D : Type 0} (tells : Bool) (old : WorldView D) (served : TracedView) (ticket : Option Ticket) (number moment : ℕ)
    (m : Option Mode) (found : Option (Message × Octets)) (r : Result (Option Outcome) ExecError)
    → IsKept (kernel_of old) → ServedExec old.served number moment m found r served → IsSound tells old ticket
    → IsSound tells (with_served old served) ticket
sound_exec tells old served ticket number moment None found r kept d h = sound_same tells old served ticket d.1 h
sound_exec tells old served ticket number moment (Some mode) None (Ok a) kept d h = sound_same tells old served ticket d.1 h
sound_exec tells old served ticket number moment (Some mode) None (Err e) kept d h = sound_same tells old served ticket d.1 h
sound_exec tells old served ticket number moment (Some mode) (Some found) (Ok a) kept d h =
    let s = d.1.2 in
    sound_grows tells old served ticket kept
    (Grows-executed (kernel_of old) served.kernel s.kernel.seat found.0 moment d.1.0.mark s.kernel.mark_is s.kernel.executed) h
sound_exec tells old served ticket number moment (Some mode) (Some found) (Err e) kept d h = sound_same tells old served ticket d.1 h

pub sound_release : {D E : Type 0} (tells : Bool) (old : WorldView D) (served : TracedView) (ticket : Option Ticket)
    (r : Result (Unit {0}) E) → IsKept (kernel_of old) → OnOk r (served ≡ releases old.served) → OnErr r (served ≡ old.served)
    → IsSound tells old ticket → IsSound tells (with_served old served) ticket
sound_release tells old served ticket (Ok x) kept ok err h =
    sound_grows tells old served ticket kept
    (Grows-seats (kernel_of old) served.kernel (kernel_of old).joined _ (ap (λ (s : TracedView). s.kernel) ok)) h
sound_release tells old served ticket (Err e) kept ok err h = sound_same tells old served ticket err h

pub sound_release_of : {D E : Type 0} (tells : Bool) (old : WorldView D) (served : TracedView) (number room : ℕ) (ticket : Option Ticket)
    (r : Result (Unit {0}) E) → IsKept (kernel_of old) → OnOk r (served ≡ releases_of old.served number room)
    → OnErr r (served ≡ old.served) → IsSound tells old ticket → IsSound tells (with_served old served) ticket
sound_release_of tells old served number room ticket (Ok x) kept ok err h =
    sound_grows tells old served ticket kept
    (Grows-seats (kernel_of old) served.kernel (kernel_of old).joined _ (ap (λ (s : TracedView). s.kernel) ok)) h
sound_release_of tells old served number room ticket (Err e) kept ok err h = sound_same tells old served ticket err h

-- ---- Stop

-- whether two numbers are equal can be told
pub same_or_not : (a b : ℕ) → (a ≡ b) ⊎ (a ≢ b)
same_or_not a b = go (a == b) refl where
  go : (t : Bool) → (a == b) ≡ t → (a ≡ b) ⊎ (a ≢ b)
  go true is = inl (eqb-true a b is)
  go false is = inr (eqb-false a b is)

module _ {D : Type 0} (old : WorldView D) (served : TracedView) where
  pub sound_stop : (tells : Bool) (ticket : Option Ticket) (stopped : Bool) → IsKept (kernel_of old)
      → IsTrue stopped ↔ ((kernel_of old).durable ≡ length (kernel_of old).spool)
      → (stopped ≡ true → served ≡ with_kernel old.served (halted_for_good (kernel_of old))) → (stopped ≡ false → served ≡ old.served)
      → IsSound tells old ticket → IsSound tells (with_served old served) ticket
  sound_stop tells ticket true kept when stops goes_on h =
      subst (λ s. IsSound tells (with_served old s) ticket) (sym (stops refl))
      (record { tied = IsTied-stops tells old kept (when.0 refl) h.tied; flies = h.flies })
  sound_stop tells ticket false kept when stops goes_on h = sound_same tells old served ticket (goes_on refl) h

  pub did_stop : (stopped : Bool) → IsTrue stopped ↔ ((kernel_of old).durable ≡ length (kernel_of old).spool)
      → (stopped ≡ true → served ≡ with_kernel old.served (halted_for_good (kernel_of old))) → (stopped ≡ false → served ≡ old.served)
      → DidStop old (Ok (answer.Stopped stopped)) (with_served old served)
  did_stop true when stops goes_on = record {
    stops = λ clean. (refl, ap (with_served old) (stops refl));
    goes_on = λ more. absurd (more (when.0 refl));
  }
  did_stop false when stops goes_on = record {
    stops = λ clean. absurd (let no : false ≡ true = when.1 clean in cc);
    goes_on = λ more. (refl, ap (with_served old) (goes_on refl));
  }

-- ---- Take

-- the journal that begins, by what its call says
pub is_begun : {D : Type 0} (old : JournalView D) (kernel : KernelView) (last : ℕ) (numbers : List ℕ) (images : List Octets)
    → last ≡ length kernel.spool → numbers ≡ kernel.dirty → images ≡ map (λ n. slice_index_or kernel.blocks n []) numbers
    → begins old last numbers images ≡ begun old kernel
is_begun old kernel last numbers images serial dirty copies =
    λ i. begins old (serial i) (dirty i) ((copies ∙ ap (map (λ n. slice_index_or kernel.blocks n [])) dirty) i)

no_ticket : (ticket : Option Ticket) → option_map (λ (t : Ticket). t.last) ticket ≡ None → ticket ≡ None
no_ticket None is = refl
no_ticket (Some t) is = absurd (cc is)

-- where none was in flight, a new ticket is no news
pub news_begin : (ticket : Option Ticket) (new : Ticket) (committed failed : Bool) → option_map (λ (t : Ticket). t.last) ticket ≡ None
    → news_in (Some new) false failed ≡ news_in ticket committed failed
news_begin ticket new committed failed none = ap (λ t. news_in t committed failed) (sym (no_ticket ticket none))

pub sound_take : {D : Type 0} (tells : Bool) (old : WorldView D) (ticket : Option Ticket) (new : Ticket) (untold : List News)
    → IsKept (kernel_of old) → IsReady old.journal → has_batch (kernel_of old) ≡ true → new.last ≡ length (kernel_of old).spool
    → ((base : List Octets) → AgreesBehind (kernel_of old) base
    → laid_over base (kernel_of old).dirty (map (λ n. slice_index_or (kernel_of old).blocks n []) (kernel_of old).dirty)
    ≡ (kernel_of old).blocks)
    → untold ≡ old.untold → IsSound tells old ticket
    → IsSound tells (record {
      journal = begun old.journal (kernel_of old);
      served = with_kernel old.served (taken (kernel_of old));
      untold = untold;
    }) (Some new)
sound_take tells old ticket new untold kept ready has last lays same h =
    subst (λ news. IsSound tells (record {
      journal = begun old.journal (kernel_of old);
      served = with_kernel old.served (taken (kernel_of old));
      untold = news;
    }) (Some new)) (sym same)
    (record { tied = IsTied-takes tells old kept ready has lays h.tied; flies = ap Some last })

pub none_flies : (kernel : KernelView) (ticket : Option Ticket) → option_map (λ (t : Ticket). t.last) ticket ≡ kernel.in_flight
    → has_batch kernel ≡ true → option_map (λ (t : Ticket). t.last) ticket ≡ None
none_flies kernel ticket is has = is ∙ (batch_parts kernel has).0

pub lays_dirty : (old new : KernelView) (numbers : List ℕ) (images : List Octets) (last : ℕ) → Takes old new numbers images last
    → (base : List Octets) → AgreesBehind old base
    → laid_over base old.dirty (map (λ n. slice_index_or old.blocks n []) old.dirty) ≡ old.blocks
lays_dirty old new numbers images last t base agrees =
    (λ i. laid_over base (sym t.numbers_are i) (map (λ n. slice_index_or old.blocks n []) (sym t.numbers_are i)))
    ∙ (ap (laid_over base numbers) (sym t.images_are) ∙ t.lays base agrees)

-- ---- Exec

pub did_exec : {D : Type 0} (old : WorldView D) (served : TracedView) (number moment : ℕ) (m : Option Mode)
    (found : Option (Message × Octets)) (r : Result (Option Outcome) ExecError)
    → ServedExec old.served number moment m found r served
    → DidExec old number moment m found (exec_answer r) (with_served old served)
did_exec old served number moment None found r d = (ap exec_answer d.0, ap (with_served old) d.1)
did_exec old served number moment (Some mode) None (Ok a) d = (ap answer.Served d.0, ap (with_served old) d.1)
did_exec old served number moment (Some mode) None (Err e) d = (ap of_exec_error d.0, ap (with_served old) d.1)
did_exec old served number moment (Some mode) (Some found) (Ok a) d = (d.0, (d.1.0, ap answer.Served d.1.1, d.1.2, refl))
did_exec old served number moment (Some mode) (Some found) (Err e) d = (
  ⊎_elim
      (λ (m : (e ≡ exec.Memory) × ◌≡◌ {A = Option Refusal} None None). inl (ap of_exec_error m.0, m.1))
      (λ (r : (r : Refusal) × (exec_refusal (kernel_of old) number found.0 ≡ Some r) × (e ≡ of_exec r)). inr (
        r.0,
        r.1,
        ap of_exec_error r.2
            ∙ told_as r.0 r.1,
      ))
      d.0,
  ap (with_served old) d.1,
)
  where
    pick : (a b c : Bool) (r : Refusal)
        → first_failing ((a, refusal.NoSession) ∷ (b, refusal.LaterOut) ∷ (c, refusal.LaterDirty) ∷ []) ≡ Some r
        → of_exec_error (of_exec r) ≡ of_kernel r
    pick true b c r is = let same : refusal.NoSession ≡ r = cc is in subst (λ x. of_exec_error (of_exec x) ≡ of_kernel x) same refl
    pick false true c r is = let same : refusal.LaterOut ≡ r = cc is in subst (λ x. of_exec_error (of_exec x) ≡ of_kernel x) same refl
    pick false false true r is = let same : refusal.LaterDirty ≡ r = cc is in subst (λ x. of_exec_error (of_exec x) ≡ of_kernel x) same refl
    pick false false false r is = absurd (cc is)

    told_as : (r : Refusal) → exec_refusal (kernel_of old) number found.0 ≡ Some r → of_exec_error (of_exec r) ≡ of_kernel r
    told_as r is = pick (is_none (mode_at (kernel_of old) number)) (nat_le 1048576 (buffered (kernel_of old) number))
        (not (kernel_of old).halted && is_block found.0
        && nat_lt (most_dirty (length (kernel_of old).blocks)) (length (kernel_of old).dirty)) r is

-- ---- Dev

or_none : (b : Bool) → (b || false) ≡ b
or_none true = refl
or_none false = refl

-- the journal made a call: so it runs
runs_at : (halted : Bool) (answered : Result Progress JournalError) → (halted ≡ true → answered ≡ Err journal.Halted)
    → (answered ≡ Err journal.Halted → ⊥) → halted ≡ false
runs_at true answered h other = absurd (other (h refl))
runs_at false answered h other = refl

-- while the journal runs, no fault is untold
running_news : {D : Type 0} (tells : Bool) (journal : JournalView D) (kernel : KernelView) (untold : List News) → journal.halted ≡ false
    → Phase tells journal kernel untold → (untold ≡ []) ⊎ ((last : ℕ) × (untold ≡ IsDurable last ∷ []))
running_news tells journal kernel untold runs (Quiet q) = inl (subst (λ b. AreFaultsOrStopped b kernel.halted untold) runs q.faults)
running_news tells journal kernel untold runs (Flying last f) = inl (subst (λ b. AreFaults b kernel.halted untold) runs f.faults).1
running_news tells journal kernel untold runs (IsToBeTold last c) =
    inr (last, c.told ∙ ap (λ xs. IsDurable last ∷ xs) (subst (λ b. AreFaults b false c.later) runs c.faults).1)

not_failed : (ticket : Option Ticket) (committed failed : Bool)
    → (news_in ticket committed failed ≡ []) ⊎ ((last : ℕ) × (news_in ticket committed failed ≡ IsDurable last ∷ [])) → failed ≡ false
not_failed ticket committed false is = refl
not_failed None committed true is =
    ⊎_elim (λ (e : HasFailed ∷ [] ≡ []). absurd (cc e)) (λ (e : (last : ℕ) × (HasFailed ∷ [] ≡ IsDurable last ∷ [])). absurd (cc (e.1))) is
not_failed (Some t) false true is =
    ⊎_elim (λ (e : HasFailed ∷ [] ≡ []). absurd (cc e)) (λ (e : (last : ℕ) × (HasFailed ∷ [] ≡ IsDurable last ∷ [])). absurd (cc (e.1))) is
not_failed (Some t) true true is =
    ⊎_elim (λ (e : IsDurable t.last ∷ HasFailed ∷ [] ≡ []). absurd (cc e))
    (λ (e : (last : ℕ) × (IsDurable t.last ∷ HasFailed ∷ [] ≡ IsDurable last ∷ [])). absurd (let f = e.1 in cc f)) is

-- the batch of a commit has its ticket, and nothing is untold
committed_news : (ticket : Option Ticket) (committed failed : Bool) (last : ℕ) → option_map (λ (t : Ticket). t.last) ticket ≡ Some last
    → news_in ticket committed failed ≡ []
    → news_in ticket (committed || true) (failed || false) ≡ news_in ticket committed failed ++ IsDurable last ∷ []
committed_news None committed failed last is none = absurd (cc is)
committed_news (Some t) true failed last is none = absurd (cc none)
committed_news (Some t) false true last is none = absurd (cc none)
committed_news (Some t) false false last is none = let same : t.last ≡ last = cc is in ap (λ n. IsDurable n ∷ []) same

pub dev_news : {D : Type 0} {write_grows sync_grows : Bool} (device : D → Device) (old : WorldView D) (new : JournalView D)
    (ticket : Option Ticket) (committed failed : Bool) (answered : Result Progress JournalError)
    → old.untold ≡ news_in ticket committed failed → Steps device write_grows sync_grows old.journal answered new
    → IsSound (device old.journal.disk).tells old ticket
    → news_in ticket (committed || commits answered) (failed || fails answered) ≡ old.untold ++ news_of answered
dev_news {D} {write_grows} {sync_grows} device old new ticket committed failed answered is s h = go answered refl
  where
    quiet : (a : Result Progress JournalError) → commits a ≡ false → fails a ≡ false → news_of a ≡ []
        → news_in ticket (committed || commits a) (failed || fails a) ≡ old.untold ++ news_of a
    quiet a uncommitted none news =
        (λ i. news_in ticket (committed || uncommitted i) (failed || none i))
        ∙ ((λ i. news_in ticket (or_none committed i) (or_none failed i))
        ∙ (sym is ∙ (sym (append-nil old.untold) ∙ ap (λ xs. old.untold ++ xs) (sym news))))

    go : (a : Result Progress JournalError) → answered ≡ a
        → news_in ticket (committed || commits a) (failed || fails a) ≡ old.untold ++ news_of a
    go (Ok progress.Working) e = quiet (Ok progress.Working) refl refl refl
    go (Ok progress.Idle) e = quiet (Ok progress.Idle) refl refl refl
    go (Ok (progress.Committed last)) e = commits_now h.tied.phase
      where
        runs : old.journal.halted ≡ false
        runs = runs_at old.journal.halted answered (λ halted. (s.halted halted).0)
            (λ no. absurd (let both : Ok (progress.Committed last) ≡ Err journal.Halted = sym e ∙ no in cc))

        call : MakesCall device old.journal new answered
        call = subst (λ r. OnMade r (MakesCall device old.journal new answered)) e
            (s.call runs (λ idle. absurd (let both : Ok (progress.Committed last) ≡ Ok progress.Idle = sym e ∙ (s.idle runs idle).0 in cc)))

        at : (old.journal.next ≡ next.Commit) × (last ≡ old.journal.last)
        at = committed_at last old.journal.last (sizes old.journal) old.journal.next (answers answered e call.answers)
          where
            answers : (a : Result Progress JournalError) → a ≡ Ok (progress.Committed last)
                → IfOk a (λ p. p ≡ journal_answer old.journal.last (sizes old.journal) old.journal.next)
                → progress.Committed last ≡ journal_answer old.journal.last (sizes old.journal) old.journal.next
            answers (Ok p) f g = let same : p ≡ progress.Committed last = cc f in sym same ∙ g
            answers (Err x) f g = absurd (cc f)

        commits_now : Phase (device old.journal.disk).tells old.journal (kernel_of old) old.untold
            → news_in ticket (committed || true) (failed || false) ≡ old.untold ++ IsDurable last ∷ []
        commits_now (Quiet q) = absurd (let both : true ≡ false = sym (ap is_to_commit at.0) ∙ q.past in cc)
        commits_now (IsToBeTold n c) = absurd (let both : true ≡ false = sym (ap is_to_commit at.0) ∙ c.past in cc)
        commits_now (Flying n f) =
            let none : old.untold ≡ [] = (subst (λ b. AreFaults b (kernel_of old).halted old.untold) runs f.faults).1 in
            committed_news ticket committed failed last (h.flies ∙ (f.flies ∙ ap Some (sym f.last_is ∙ sym at.1))) (sym is ∙ none)
            ∙ ap (λ xs. xs ++ IsDurable last ∷ []) (sym is)
    go (Err journal.Fault) e =
        let runs : old.journal.halted ≡ false =
        runs_at old.journal.halted answered (λ halted. (s.halted halted).0)
        (λ no. absurd (let both : Err journal.Fault ≡ Err journal.Halted = sym e ∙ no in cc)) in
        let fine : failed ≡ false = not_failed ticket committed failed
        (subst (λ xs. (xs ≡ []) ⊎ ((last : ℕ) × (xs ≡ IsDurable last ∷ []))) is
        (running_news (device old.journal.disk).tells old.journal (kernel_of old) old.untold runs h.tied.phase)) in
        (λ i. durable_news ticket (or_none committed i) ++ failed_news (fine i || true))
        ∙ (ap (λ xs. xs ++ HasFailed ∷ []) (sym (append-nil (durable_news ticket committed))
        ∙ (ap (λ b. durable_news ticket committed ++ failed_news b) (sym fine) ∙ sym is)))
    go (Err journal.Memory) e = quiet (Err journal.Memory) refl refl refl
    go (Err journal.NotAVolume) e = quiet (Err journal.NotAVolume) refl refl refl
    go (Err journal.Halted) e = quiet (Err journal.Halted) refl refl refl

pub sound_dev : {D : Type 0} {write_grows sync_grows : Bool} (device : D → Device) (old : WorldView D) (new : JournalView D)
    (ticket : Option Ticket) (untold : List News) (answered : Result Progress JournalError) → untold ≡ old.untold ++ news_of answered
    → Steps device write_grows sync_grows old.journal answered new → IsSound (device old.journal.disk).tells old ticket
    → IsSound (device new.disk).tells (record { journal = new; served = old.served; untold = untold }) ticket
sound_dev device old new ticket untold answered same s h =
    subst (λ news. IsSound (device new.disk).tells (record { journal = new; served = old.served; untold = news }) ticket) (sym same)
    (record { tied = IsTied-steps device old new answered s h.tied; flies = h.flies })

-- ---- Told

pub committed_ok : {E : Type 0} (kernel : KernelView) (served new : TracedView) (last : ℕ) (r : Result (Unit {0}) E)
    → kernel.in_flight ≡ Some last → kernel.halted ≡ false
    → IfOk r (λ done. (kernel.in_flight ≡ Some last) × (kernel.halted ≡ false) × (new ≡ with_kernel served (made_durable kernel last)))
    → OnErr r (((kernel.in_flight ≢ Some last) ⊎ (kernel.halted ≡ true)) × (new ≡ served))
    → new ≡ with_kernel served (made_durable kernel last)
committed_ok kernel served new last (Ok done) flies runs ok stale = ok.2
committed_ok kernel served new last (Err e) flies runs ok stale =
    absurd (⊎_elim (λ (other : kernel.in_flight ≢ Some last). other flies) (λ (halted : kernel.halted ≡ true). let both : true ≡ false =
    sym halted ∙ runs in absurd (cc both)) stale.0)

-- a commit is told: what became of the kernel, and what the fields keep
pub sound_told_durable : {E D : Type 0} (tells : Bool) (old : WorldView D) (new : TracedView) (ticket : Option Ticket) (t : Ticket)
    (committed failed : Bool) (r : Result (Unit {0}) E) → old.untold ≡ news_in ticket committed failed → ticket ≡ Some t → committed ≡ true
    → IfOk r (λ done. ((kernel_of old).in_flight ≡ Some t.last) × ((kernel_of old).halted ≡ false)
    × (new ≡ with_kernel old.served (made_durable (kernel_of old) t.last)))
    → OnErr r ((((kernel_of old).in_flight ≢ Some t.last) ⊎ ((kernel_of old).halted ≡ true)) × (new ≡ old.served))
    → IsSound tells old ticket
    → IsSound tells (record { journal = old.journal; served = new; untold = news_in None false failed }) None
    × ◌≡◌ {A = WorldView D} (record { journal = old.journal; served = new; untold = news_in None false failed })
    (record { journal = old.journal; served = with_kernel old.served (told (kernel_of old) old.untold); untold = drop 1 old.untold })
sound_told_durable {E} {D} tells old new ticket t committed failed r is has done_is ok stale h = (
  subst (λ s. IsSound tells (record { journal = old.journal; served = s; untold = failed_news failed }) None) (sym now)
      (record { tied = step.2; flies = refl }),
  λ i. record {
    journal = old.journal;
    served = (now ∙ ap (λ xs. with_kernel old.served (told (kernel_of old) xs)) (sym news)) i;
    untold = ap (drop 1) (sym news) i;
  },
)
  where
    news : old.untold ≡ IsDurable t.last ∷ failed_news failed
    news = is ∙ (λ i. news_in (has i) (done_is i) failed)

    step : ((kernel_of old).in_flight ≡ Some t.last) × ((kernel_of old).halted ≡ false)
        × IsTied tells (record {
          journal = old.journal;
          served = with_kernel old.served (made_durable (kernel_of old) t.last);
          untold = failed_news failed;
        })
    step = IsTied-told_durable tells old t.last (failed_news failed) news h.tied

    now : new ≡ with_kernel old.served (made_durable (kernel_of old) t.last)
    now = committed_ok (kernel_of old) old.served new t.last r step.0 step.1 ok stale

pub told_nothing : {D : Type 0} (old : WorldView D) (ticket : Option Ticket) (committed failed : Bool)
    → old.untold ≡ news_in ticket committed failed → durable_news ticket committed ≡ [] → failed ≡ false
    → old ≡ record { journal = old.journal; served = with_kernel old.served (told (kernel_of old) old.untold); untold = drop 1 old.untold }
told_nothing {D} old ticket committed failed is none fine =
    λ i. record {
      journal = old.journal;
      served = ap (λ xs. with_kernel old.served (told (kernel_of old) xs)) (sym news) i;
      untold = (news ∙ ap (drop 1) (sym news)) i;
    }
  where
    news : old.untold ≡ []
    news = is ∙ (λ i. none i ++ failed_news (fine i))

pub sound_told_failed : {D : Type 0} (tells : Bool) (old : WorldView D) (new : TracedView) (ticket : Option Ticket)
    (committed failed : Bool) → old.untold ≡ news_in ticket committed failed → durable_news ticket committed ≡ [] → failed ≡ true
    → new ≡ with_kernel old.served (halted_for_good (kernel_of old)) → IsSound tells old ticket
    → IsSound tells (record { journal = old.journal; served = new; untold = news_in ticket committed false }) ticket
    × ◌≡◌ {A = WorldView D} (record { journal = old.journal; served = new; untold = news_in ticket committed false })
    (record { journal = old.journal; served = with_kernel old.served (told (kernel_of old) old.untold); untold = drop 1 old.untold })
sound_told_failed {D} tells old new ticket committed failed is none bad now h = (
  subst (λ (x : TracedView × List News). IsSound tells (record { journal = old.journal; served = x.0; untold = x.1 }) ticket)
      (λ i. (sym now i, sym later i)) (record { tied = IsTied-told_failed tells old [] news h.tied; flies = h.flies }),
  λ i. record {
    journal = old.journal;
    served = (now ∙ ap (λ xs. with_kernel old.served (told (kernel_of old) xs)) (sym news)) i;
    untold = (later ∙ ap (drop 1) (sym news)) i;
  },
)
  where
    news : old.untold ≡ HasFailed ∷ []
    news = is ∙ (λ i. none i ++ failed_news (bad i))

    later : news_in ticket committed false ≡ []
    later = append-nil (durable_news ticket committed) ∙ none
