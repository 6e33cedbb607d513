-- The calls of the batch in flight, to its end, and then a batch of the dirty blocks.
use Rattle.std.proofs.Common.{◌≡◌, ◌≢◌, ◌⊎◌, inl, inr, ℕ, ◌+◌, ◌-◌, ◌<◌, ◌%◌, ◌^◌, Bool, true, false, List, [], ◌++◌}
use Rattle.std.proofs.Common.{length, None, Option, refl, ap, sym, ◌∙◌, subst, arith, rules, drop}
use Rattle.std.specs.Prelude.{◌||◌, if◌then◌else◌, unwrap_or, IsTrue, Result, Ok, Err, IfErr}
use Rattle.std.proofs.lemmas.Bool.{true≢false}
use Rattle.std.proofs.lemmas.List.{append-nil}
use Rattle.std.proofs.Math.Nat.{mod-add-mod}
use Rattle.disk.specs.Device.{Device}
use Rattle.journal.specs.Calls.{IsRetried, MakesCall, OnMade, OnRetried, written_by}
use Rattle.journal.specs.Journal.{IsReady, IsSameBatch, JournalView, calls, sizes}
use Rattle.journal.specs.Order.{Carried, IsMore, all_calls, following, is_growing, is_sync, is_to_commit, syncs_made, writes_made}
use Rattle.journal.specs.declared.JournalError.{JournalError}
use Rattle.journal.specs.declared.JournalError.TheVariants as journal
use Rattle.journal.specs.declared.Next.{Next}
use Rattle.journal.specs.declared.Next.TheVariants as next
use Rattle.journal.specs.declared.Progress.{Progress}
use Rattle.journal.proofs.Counting.{Asks, asks_by, one_count, same_count}
use Rattle.journal.proofs.During.{same_itself, same_sizes, same_then}
use Rattle.journal.proofs.Order.{one_more_sync, one_more_write}
use Rattle.kernel.specs.Kernel.{KernelView}
use Rattle.model.specs.Stream.{Octets}
use Rattle.kernel_trace.specs.Events.{with_kernel}
use Rattle.kernel_trace.specs.Traced.{TracedView}
use Rattle.world.specs.Draining.{CarriesOut, FinishesBatch, IsHindered, RunsInner, syncs_left, with_batch_durable, writes_left}
use Rattle.world.specs.Events.{Did, DidDev, dev_answer, news_of, told}
use Rattle.world.specs.Images.{EachSince, Fits, LeftFits}
use Rattle.world.specs.Tied.{AreFaults, AreFaultsOrStopped, IsTied, IsWorld, Phase, Quiet, Flying, IsToBeTold}
use Rattle.world.specs.World.{News, WorldView, kernel_of}
use Rattle.world.specs.declared.events.Event.TheVariants as event
use Rattle.world.specs.declared.events.StepAnswer.{StepAnswer}
use Rattle.world.specs.declared.events.StepAnswer.TheVariants as answer
use Rattle.world.specs.declared.events.StepError.{StepError}
use Rattle.world.specs.declared.events.StepError.TheVariants as error
use Rattle.world.proofs.Inner.{inner_none, inner_one, inner_then}

-- ---- counts

-- some more were made, and the device counted as many more
pub record Counted (old_made made counted_before counted : ℕ) : Type 0 where
  pub done : ℕ
  pub made_is : made ≡ old_made + done
  pub more : IsMore done counted_before counted

none_counted : (made counted : ℕ) → Counted made made counted counted
none_counted made counted = record { done = 0; made_is = omega arith; more = ap (λ (k : ℕ). k % 2 ^ 64) (omega arith) }

writes_counted : (n : ℕ) (carried : Carried) (call : Next) (made before : ℕ) (old new : Device) → call ≢ next.Idle
    → Asks (is_sync call) old new → Counted made (writes_made n carried call) before old.writes
    → Counted made (writes_made n carried (following n carried call)) before new.writes
writes_counted n carried call made before old new flies asks h = go (is_sync call) asks (one_more_write n carried call flies) where
  go : (b : Bool) → Asks b old new
      → writes_made n carried (following n carried call) ≡ (if b then writes_made n carried call else writes_made n carried call + 1)
      → Counted made (writes_made n carried (following n carried call)) before new.writes
  go true asked is = record {
    done = h.done;
    made_is = is ∙ h.made_is;
    more = same_count h.done before old.writes new.writes h.more asked.writes;
  }
  go false asked is = record {
    done = h.done + 1;
    made_is = omega (arith, is, h.made_is);
    more = one_count h.done before old.writes new.writes h.more asked.writes;
  }

syncs_counted : (n : ℕ) (carried : Carried) (call : Next) (made before : ℕ) (old new : Device) → call ≢ next.Idle
    → Asks (is_sync call) old new → Counted made (syncs_made carried call) before old.syncs
    → Counted made (syncs_made carried (following n carried call)) before new.syncs
syncs_counted n carried call made before old new flies asks h = go (is_sync call) asks (one_more_sync n carried call flies) where
  go : (b : Bool) → Asks b old new
      → syncs_made carried (following n carried call) ≡ (if b then syncs_made carried call + 1 else syncs_made carried call)
      → Counted made (syncs_made carried (following n carried call)) before new.syncs
  go false asked is = record {
    done = h.done;
    made_is = is ∙ h.made_is;
    more = same_count h.done before old.syncs new.syncs h.more asked.syncs;
  }
  go true asked is = record {
    done = h.done + 1;
    made_is = omega (arith, is, h.made_is);
    more = one_count h.done before old.syncs new.syncs h.more asked.syncs;
  }

-- all that were left
counted_all : (old_made made last before counted : ℕ) → Counted old_made made before counted → made ≡ last
    → IsMore (last - old_made) before counted
counted_all old_made made last before counted h is =
    let done : h.done ≡ last - old_made = omega (arith, is, h.made_is) in
    subst (λ (k : ℕ). IsMore k before counted) done h.more

pub more_then : (a b x y z : ℕ) → IsMore a x y → IsMore b y z → IsMore (a + b) x z
more_then a b x y z first second =
    second ∙ sym (mod-add-mod y (2 ^ 64) b) ∙ ap (λ (k : ℕ). (k + b) % 2 ^ 64) first ∙ mod-add-mod (x + a) (2 ^ 64) b
    ∙ ap (λ (k : ℕ). k % 2 ^ 64) (omega arith)

-- ---- Dev

-- a device that takes memory for the next call takes it for writes or for syncs
takes_memory : (call : Next) (write_grows sync_grows : Bool) → IsTrue (is_growing call write_grows sync_grows)
    → IsTrue (write_grows || sync_grows)
takes_memory call write_grows sync_grows grows = go (is_sync call) write_grows sync_grows grows where
  go : (syncs write_grows sync_grows : Bool) → IsTrue (if syncs then sync_grows else write_grows) → IsTrue (write_grows || sync_grows)
  go true true sync_grows grows = search rules
  go true false sync_grows grows = grows
  go false true sync_grows grows = search rules
  go false false sync_grows grows = absurd (cc grows)

module _ {D : Type 0} (device : D → Device) (write_grows sync_grows : Bool) (now new : WorldView D)
    (busy : IsReady now.journal → ⊥) where
  -- a good call was one of a batch
  pub record Made (p : Progress) : Type 0 where
    pub runs : now.journal.halted ≡ false
    pub flies : now.journal.next ≢ next.Idle
    pub call : MakesCall device now.journal new.journal (Ok p)

  pub dev_made : (a : StepAnswer) → DidDev device write_grows sync_grows now (Ok a) new → (p : Progress) × Made p
  dev_made a d = go now.journal.halted refl d.answered refl where
    made : now.journal.halted ≡ false → (answered : Result Progress JournalError) → d.answered ≡ answered → (p : Progress) × Made p
    made runs (Ok p) is =
        let flies : now.journal.next ≢ next.Idle = λ idle. busy (runs, idle) in (
          p,
          record {
            runs = runs;
            flies = flies;
            call = subst (λ (r : Result Progress JournalError). OnMade r (MakesCall device now.journal new.journal r)) is
                (d.steps.call runs flies);
          },
        )
    made runs (Err e) is = absurd (refused e (d.result_is ∙ ap dev_answer is)) where
      refused : (e : JournalError) → Ok a ≡ dev_answer (Err e) → ⊥
      refused journal.Fault is_other = cc
      refused journal.Memory is_other = cc
      refused journal.NotAVolume is_other = cc
      refused journal.Halted is_other = cc

    go : (halted : Bool) → now.journal.halted ≡ halted → (answered : Result Progress JournalError) → d.answered ≡ answered
        → (p : Progress) × Made p
    go false runs answered is = made runs answered is
    go true stopped answered is =
        absurd (let no : Ok a ≡ Err error.Halted = d.result_is ∙ ap dev_answer (d.steps.halted stopped).0 in cc)

  -- what hindered a call
  pub dev_hindered : (e : StepError) → DidDev device write_grows sync_grows now (Err e) new
      → IsHindered device now new (IsTrue (write_grows || sync_grows)) e
  dev_hindered e d = go now.journal.halted refl where
    told_as : (failure : JournalError) → d.answered ≡ Err failure → Err e ≡ dev_answer (Err failure)
    told_as failure is = d.result_is ∙ ap dev_answer is

    by_answer : now.journal.halted ≡ false → (answered : Result Progress JournalError) → d.answered ≡ answered
        → OnMade answered (MakesCall device now.journal new.journal answered)
        → OnRetried answered (IsRetried device now.journal new.journal)
        → IfErr answered (λ failure. (failure ≡ journal.Fault) ⊎ (failure ≡ journal.Memory))
        → IfErr answered (λ failure. failure ≡ journal.Memory → IsTrue (is_growing now.journal.next write_grows sync_grows))
        → IsHindered device now new (IsTrue (write_grows || sync_grows)) e
    by_answer runs (Ok p) is made retried errors grows =
        absurd (let no : Err e ≡ Ok (answer.Progressed p) = d.result_is ∙ ap dev_answer is in cc)
    by_answer runs (Err failure) is made retried (inl fault) grows =
        let same : Err e ≡ Err error.Fault = told_as failure is ∙ ap (λ (x : JournalError). dev_answer (Err x)) fault in
        inl (runs, cc same, (made fault).failures.fault fault)
    by_answer runs (Err failure) is made retried (inr memory) grows =
        let same : Err e ≡ Err error.Memory = told_as failure is ∙ ap (λ (x : JournalError). dev_answer (Err x)) memory in
        inr (inr (runs, cc same, (retried memory).refused.failures, takes_memory now.journal.next write_grows sync_grows (grows memory)))

    go : (halted : Bool) → now.journal.halted ≡ halted → IsHindered device now new (IsTrue (write_grows || sync_grows)) e
    go false runs =
        let flies : now.journal.next ≢ next.Idle = λ idle. busy (runs, idle) in
        by_answer runs d.answered refl (d.steps.call runs flies) (d.steps.retried runs flies) (d.steps.no_other runs) d.steps.memory
    go true stopped =
        let s = d.steps.halted stopped in
        let same : Err e ≡ Err error.Halted = told_as journal.Halted s.0 in
        let untold : new.untold ≡ now.untold = d.untold ∙ ap (λ (r : Result Progress JournalError). now.untold ++ news_of r) s.0
        ∙ append-nil now.untold in
        inr (inl (stopped, cc same, λ i. record { journal = s.1 i; served = d.served i; untold = untold i }))

-- ---- the calls of a batch

pub record Calling {D : Type 0} (device : D → Device) (write_grows sync_grows : Bool) (old now : WorldView D) : Type 0 where
  pub inner : RunsInner {A = Unit {0}} device write_grows sync_grows old (Ok tt) now
  pub world : IsWorld device now
  pub served : now.served ≡ old.served
  pub halted : now.journal.halted ≡ old.journal.halted
  pub stays : old.journal.halted ≡ true → now ≡ old
  pub same : IsSameBatch old.journal now.journal
  pub failures : (device now.journal.disk).failures ≡ (device old.journal.disk).failures
  pub writes : Counted (writes_made (length old.journal.numbers) (sizes old.journal) old.journal.next)
      (writes_made (length now.journal.numbers) (sizes now.journal) now.journal.next) (device old.journal.disk).writes
      (device now.journal.disk).writes
  pub syncs : Counted (syncs_made (sizes old.journal) old.journal.next) (syncs_made (sizes now.journal) now.journal.next)
      (device old.journal.disk).syncs (device now.journal.disk).syncs

module _ {D : Type 0} (device : D → Device) (write_grows sync_grows : Bool) where
  pub calling_none : ((d : D) (image : Octets) → IsTrue (device d).tells → (device d).left_since (device d).clock image
      → (device d).may_leave image) → (world : WorldView D) → IsWorld device world → Calling device write_grows sync_grows world world
  calling_none only_now world h = record {
    inner = inner_none device write_grows sync_grows only_now world tt h;
    world = h;
    served = refl;
    halted = refl;
    stays = λ is. refl;
    same = same_itself world.journal;
    failures = refl;
    writes = none_counted (writes_made (length world.journal.numbers) (sizes world.journal) world.journal.next)
        (device world.journal.disk).writes;
    syncs = none_counted (syncs_made (sizes world.journal) world.journal.next) (device world.journal.disk).syncs;
  }

  module _ (old now new : WorldView D) (so_far : Calling device write_grows sync_grows old now) (busy : IsReady now.journal → ⊥)
      (world : IsWorld device new)
      (during : EachSince (device now.journal.disk) (device new.journal.disk) (Fits now))
      (since : LeftFits (device now.journal.disk) (device new.journal.disk) (Fits now)) where
    inner_on : {A : Type 0} (a : A) (r : Result StepAnswer StepError) → r ≢ Err error.Memory
        → DidDev device write_grows sync_grows now r new → RunsInner device write_grows sync_grows old (Ok a) new
    inner_on a r fine d = inner_then device write_grows sync_grows old now new tt (Ok a) so_far.inner
        (inner_one device write_grows sync_grows now new event.Dev r (Ok a) tt (λ _. fine) d world during since)

    pub calling_on : (a : StepAnswer) → DidDev device write_grows sync_grows now (Ok a) new
        → Calling device write_grows sync_grows old new
    calling_on a d = by_made (dev_made device write_grows sync_grows now new busy a d) where
      by_made : (p : Progress) × Made device write_grows sync_grows now new busy p → Calling device write_grows sync_grows old new
      by_made (p, m) =
          let n = length now.journal.numbers in
          let carried = sizes now.journal in
          let asks = asks_by true true now.journal.next (written_by now.journal) tt (device now.journal.disk) (device new.journal.disk)
          m.call.does m.flies in
          let runs : new.journal.halted ≡ false = m.call.next.1 in
          let made : writes_made (length new.journal.numbers) (sizes new.journal) new.journal.next
          ≡ writes_made n carried (following n carried now.journal.next) =
          λ i. writes_made (length (m.call.same.numbers i)) (same_sizes now.journal new.journal m.call.same i) (m.call.next.0 i) in
          let synced : syncs_made (sizes new.journal) new.journal.next ≡ syncs_made carried (following n carried now.journal.next) =
          λ i. syncs_made (same_sizes now.journal new.journal m.call.same i) (m.call.next.0 i) in
          record {
            inner = inner_on tt (Ok a) (λ e. cc) d;
            world = world;
            served = d.served ∙ so_far.served;
            halted = runs ∙ sym m.runs ∙ so_far.halted;
            stays = λ is. absurd (true≢false (sym is ∙ sym so_far.halted ∙ m.runs));
            same = same_then old.journal now.journal new.journal so_far.same m.call.same;
            failures = m.call.failures.ok ∙ so_far.failures;
            writes = subst (λ (k : ℕ). Counted (writes_made (length old.journal.numbers) (sizes old.journal) old.journal.next) k
                (device old.journal.disk).writes (device new.journal.disk).writes) (sym made)
                (writes_counted n carried now.journal.next _ _ (device now.journal.disk) (device new.journal.disk) m.flies asks
                so_far.writes);
            syncs = subst (λ (k : ℕ). Counted (syncs_made (sizes old.journal) old.journal.next) k
                (device old.journal.disk).syncs (device new.journal.disk).syncs) (sym synced)
                (syncs_counted n carried now.journal.next _ _ (device now.journal.disk) (device new.journal.disk) m.flies asks
                so_far.syncs);
          }

    pub fewer_calls : (a : StepAnswer) → DidDev device write_grows sync_grows now (Ok a) new
        → all_calls (length new.journal.numbers) (sizes new.journal) - calls new.journal
        < all_calls (length now.journal.numbers) (sizes now.journal) - calls now.journal
    fewer_calls a d = by_made (dev_made device write_grows sync_grows now new busy a d) where
      by_made : (p : Progress) × Made device write_grows sync_grows now new busy p
          → all_calls (length new.journal.numbers) (sizes new.journal) - calls new.journal
          < all_calls (length now.journal.numbers) (sizes now.journal) - calls now.journal
      by_made (p, m) =
          let all : all_calls (length new.journal.numbers) (sizes new.journal)
          ≡ all_calls (length now.journal.numbers) (sizes now.journal) =
          λ i. all_calls (length (m.call.same.numbers i)) (same_sizes now.journal new.journal m.call.same i) in
          omega (arith, all, m.call.counts.0, m.call.counts.1)

    -- a refused call
    pub carry_refused : (e : StepError) → DidDev device write_grows sync_grows now (Err e) new
        → CarriesOut device write_grows sync_grows old (Err e) new
    carry_refused e d = record {
      inner = inner_then device write_grows sync_grows old now new tt (Err e) so_far.inner
          (inner_one device write_grows sync_grows now new event.Dev (Err e) (Err e) tt (λ fine. λ is. fine (cc is)) d world during since);
      keeps = world;
      served = d.served ∙ so_far.served;
      ready = tt;
      same = tt;
      still = tt;
      writes = tt;
      syncs = tt;
      hindered = from_now (dev_hindered device write_grows sync_grows now new busy e d);
    }
      where
        from_now : IsHindered device now new (IsTrue (write_grows || sync_grows)) e
            → IsHindered device old new (IsTrue (write_grows || sync_grows)) e
        from_now (inl (runs, is, fails)) = inl (sym so_far.halted ∙ runs, is, λ same. fails (same ∙ sym so_far.failures))
        from_now (inr (inl (stopped, is, same))) =
            let was : old.journal.halted ≡ true = sym so_far.halted ∙ stopped in
            inr (inl (was, is, same ∙ so_far.stays was))
        from_now (inr (inr (runs, is, same, grows))) = inr (inr (sym so_far.halted ∙ runs, is, same ∙ so_far.failures, grows))

  -- all calls were made
  pub carried_out : (old now : WorldView D) → Calling device write_grows sync_grows old now → IsReady now.journal
      → CarriesOut device write_grows sync_grows old (Ok tt) now
  carried_out old now so_far ready =
      let made : writes_made (length now.journal.numbers) (sizes now.journal) now.journal.next
      ≡ writes_made (length old.journal.numbers) (sizes old.journal) next.Idle =
      λ i. writes_made (length (so_far.same.numbers i)) (same_sizes old.journal now.journal so_far.same i) (ready.1 i) in
      let synced : syncs_made (sizes now.journal) now.journal.next ≡ syncs_made (sizes old.journal) next.Idle =
      λ i. syncs_made (same_sizes old.journal now.journal so_far.same i) (ready.1 i) in
      record {
        inner = so_far.inner;
        keeps = so_far.world;
        served = so_far.served;
        ready = ready;
        same = so_far.same;
        still = record { ran = sym so_far.halted ∙ ready.0; failures = so_far.failures };
        writes = counted_all _ _ _ _ _ so_far.writes made;
        syncs = counted_all _ _ _ _ _ so_far.syncs synced;
        hindered = tt;
      }

-- ---- Told

no_faults : (halted other : Bool) (news : List News) → halted ≡ false → AreFaults halted other news → (other ≡ false) × (news ≡ [])
no_faults false other news is f = f
no_faults true other news is f = absurd (true≢false is)

-- what the kernel learns when the calls are made
pub record Learns (kernel : KernelView) (news : List News) : Type 0 where
  pub kernel_is : told kernel news ≡ with_batch_durable kernel
  pub rest : drop 1 news ≡ []

pub learns : {D : Type 0} (tells : Bool) (world : WorldView D) → IsReady world.journal → IsTied tells world
    → Learns (kernel_of world) world.untold
learns {D} tells world ready tied = go tied.phase where
  kernel : KernelView
  kernel = kernel_of world

  nothing : kernel.in_flight ≡ None → with_batch_durable kernel ≡ kernel
  nothing none = λ i. record kernel { durable = unwrap_or (none i) kernel.durable; in_flight = sym none i }

  go : Phase tells world.journal kernel world.untold → Learns kernel world.untold
  go (Quiet q) =
      let quiet : world.untold ≡ [] = subst (λ b. AreFaultsOrStopped b kernel.halted world.untold) ready.0 q.faults in
      record { kernel_is = ap (told kernel) quiet ∙ sym (nothing q.none); rest = ap (drop 1) quiet }
  go (Flying last f) = absurd (true≢false (sym f.waits ∙ ap is_to_commit ready.1))
  go (IsToBeTold last c) = let f = no_faults world.journal.halted false c.later ready.0 c.faults in
      record {
        kernel_is = ap (told kernel) c.told
            ∙ ap (λ (o : Option ℕ). record kernel { durable = unwrap_or o kernel.durable; in_flight = None }) (sym c.flies);
        rest = ap (drop 1) c.told ∙ f.1;
      }

module _ {D : Type 0} (device : D → Device) (write_grows sync_grows : Bool) where
  pub batch_finished : (old now new : WorldView D) (r : Result StepAnswer StepError)
      → CarriesOut device write_grows sync_grows old (Ok tt) now → Did device write_grows sync_grows now event.Told r new
      → IsWorld device new → EachSince (device now.journal.disk) (device new.journal.disk) (Fits now)
      → LeftFits (device now.journal.disk) (device new.journal.disk) (Fits now)
      → FinishesBatch device write_grows sync_grows old (Ok tt) new
  batch_finished old now new r h d world during since =
      let l = learns (device now.journal.disk).tells now h.ready h.keeps.tied in
      let fine : r ≢ Err error.Memory = λ is. let no : Ok answer.Done ≡ Err error.Memory = sym d.0 ∙ is in cc in
      let journal : new.journal ≡ now.journal = ap (λ (w : WorldView D). w.journal) d.1 in
      let served : new.served ≡ with_kernel old.served (with_batch_durable (kernel_of old)) =
      ap (λ (w : WorldView D). w.served) d.1 ∙ ap (with_kernel now.served) l.kernel_is
      ∙ ap (λ (s : TracedView). with_kernel s (with_batch_durable s.kernel)) h.served in
      record {
        inner = inner_then device write_grows sync_grows old now new tt (Ok tt) h.inner
            (inner_one device write_grows sync_grows now new event.Told r (Ok tt) tt (λ _. fine) d world during since);
        keeps = world;
        served = served;
        told = ap (λ (w : WorldView D). w.untold) d.1 ∙ l.rest;
        ready = subst (λ (j : JournalView D). IsReady j) (sym journal) h.ready;
        same = subst (λ (j : JournalView D). IsSameBatch old.journal j) (sym journal) h.same;
        still = record { ran = h.still.ran; failures = ap (λ (j : JournalView D). (device j.disk).failures) journal ∙ h.still.failures };
        writes = subst (λ (j : JournalView D). IsMore (writes_left old.journal) (device old.journal.disk).writes (device j.disk).writes)
            (sym journal) h.writes;
        syncs = subst (λ (j : JournalView D). IsMore (syncs_left old.journal) (device old.journal.disk).syncs (device j.disk).syncs)
            (sym journal) h.syncs;
        hindered = tt;
      }

  pub batch_refused : (old new : WorldView D) (e : StepError) → CarriesOut device write_grows sync_grows old (Err e) new
      → FinishesBatch device write_grows sync_grows old (Err e) new
  batch_refused old new e h = record {
    inner = h.inner;
    keeps = h.keeps;
    served = h.served;
    told = tt;
    ready = tt;
    same = tt;
    still = tt;
    writes = tt;
    syncs = tt;
    hindered = h.hindered;
  }
