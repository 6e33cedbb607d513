-- Two batches, one after the other: then each accepted change is durable.
use Rattle.std.proofs.Common.{◌≡◌, ◌≢◌, ◌⊎◌, inl, inr, ⊎_elim, ℕ, ◌+◌, ◌-◌, Bool, true, false, List, [], ◌∷◌, ◌++◌, length, Some, None}
use Rattle.std.proofs.Common.{◌<◌, ◌≤◌, get_or, refl, ap, sym, ◌∙◌, subst, arith, take}
use Rattle.std.specs.Prelude.{◌||◌, ◌==◌, if◌then◌else◌, not, map, slice_index_or, IsTrue, OnOk, Result, Ok, Err, IfErr}
use Rattle.std.specs.List.{list_any}
use Rattle.std.proofs.lemmas.Bool.{eqb-true, true≢false}
use Rattle.std.proofs.lemmas.List.{get_or_default, nil_from_length, length-take, same_lists}
use Rattle.disk.specs.Device.{Device}
use Rattle.journal.specs.Flight.{carried_of, none_carried}
use Rattle.journal.specs.Journal.{IsReady, IsSameBatch, JournalView, sizes, still_open}
use Rattle.journal.specs.Order.{Carried, IsMore, syncs_made, writes_made}
use Rattle.journal.specs.declared.Next.TheVariants as next
use Rattle.kernel.specs.Kernel.{KernelView, has_batch, is_dirty, taken}
use Rattle.model.specs.Layout.{Holds}
use Rattle.model.specs.Stream.{Octets}
use Rattle.model.proofs.HoldsOne.{holds_one}
use Rattle.kernel_trace.specs.Events.{with_kernel}
use Rattle.kernel_trace.specs.Traced.{TracedView}
use Rattle.world.specs.Draining.{CostsToSettle, FinishesBatch, IsHindered, IsSettled, IsStill, RunsInner}
use Rattle.world.specs.Draining.{syncs_left, with_batch_durable, with_progress, writes_left}
use Rattle.world.specs.Events.{DidTake, begun}
use Rattle.world.specs.Images.{EachNow, EachSince, Fits, LeftFits}
use Rattle.world.specs.Tied.{IsTied, IsWorld, LieBehind, Phase, Quiet, Flying, IsToBeTold}
use Rattle.world.specs.World.{WorldView, kernel_of}
use Rattle.world.specs.declared.events.Event.TheVariants as event
use Rattle.world.specs.declared.events.StepAnswer.{StepAnswer}
use Rattle.world.specs.declared.events.StepAnswer.TheVariants as answer
use Rattle.world.specs.declared.events.StepError.{StepError}
use Rattle.world.specs.declared.events.StepError.TheVariants as error
use Rattle.world.proofs.Fitting.{now_fits}
use Rattle.world.proofs.Inner.{inner_one, inner_then}
use Rattle.world.proofs.Settling.{more_then}

-- ---- where no block is dirty and no batch is in flight, the journal's blocks are the cached ones, which hold all changes

all_durable : (kernel : KernelView) (blocks : List Octets) → kernel.dirty ≡ [] → Holds kernel.host kernel.inodes kernel.blocks kernel.spool
    → (inodes_few : kernel.inodes ≤ 4194304) → kernel.durable ≤ length kernel.spool → LieBehind kernel blocks kernel.durable
    → kernel.durable ≡ length kernel.spool
all_durable kernel blocks clean holds few within lies =
    let same : blocks ≡ kernel.blocks = same_lists blocks kernel.blocks lies.agrees.size (λ k d low. at k d low) in
    let first : Holds kernel.host kernel.inodes kernel.blocks (take kernel.durable kernel.spool) =
    subst (λ (bs : List Octets). Holds kernel.host kernel.inodes bs (take kernel.durable kernel.spool)) same lies.holds in
    let one : take kernel.durable kernel.spool ≡ kernel.spool =
    holds_one kernel.host kernel.host kernel.inodes kernel.blocks _ _ few first holds in
    omega (arith, within, ap length one, length-take kernel.durable kernel.spool)
  where
    at : (k : ℕ) (d : Octets) → k < length blocks → get_or blocks k d ≡ get_or kernel.blocks k d
    at k d low =
        let inside : k < length kernel.blocks = omega (arith, low, lies.agrees.size) in
        let still : is_dirty kernel k ≡ false = ap (list_any (λ (n : ℕ). n == k)) clean in
        get_or_default blocks k d [] low ∙ lies.agrees.clean k inside still ∙ get_or_default kernel.blocks k [] d inside

pub durable_when_clean : {D : Type 0} (device : D → Device) (world : WorldView D) → IsWorld device world
    → IsTrue (device world.journal.disk).tells → (kernel_of world).in_flight ≡ None → (kernel_of world).dirty ≡ []
    → (kernel_of world).durable ≡ length (kernel_of world).spool
durable_when_clean device world h tells none clean = go h.tied.phase where
  go : Phase (device world.journal.disk).tells world.journal (kernel_of world) world.untold
      → (kernel_of world).durable ≡ length (kernel_of world).spool
  go (Quiet q) = all_durable (kernel_of world) world.journal.blocks clean h.kernel.cache h.tied.label.few h.kernel.durable (q.blocks tells)
  go (Flying last f) = absurd (let no : Some last ≡ None = sym f.flies ∙ none in cc)
  go (IsToBeTold last c) = absurd (let no : Some last ≡ None = sym c.flies ∙ none in cc)

-- a kernel that was stopped has no dirty block
clean_when_stopped : {D : Type 0} (tells : Bool) (world : WorldView D) → IsTied tells world → IsReady world.journal
    → (kernel_of world).in_flight ≡ None → (kernel_of world).halted ≡ true → (length (kernel_of world).dirty == 0) ≡ true
clean_when_stopped tells world h ready none halted = go h.phase where
  go : Phase tells world.journal (kernel_of world) world.untold → (length (kernel_of world).dirty == 0) ≡ true
  go (Quiet q) = by_test (length (kernel_of world).dirty == 0) refl where
    by_test : (b : Bool) → (length (kernel_of world).dirty == 0) ≡ b → b ≡ true
    by_test true is = refl
    by_test false is =
        let some : (kernel_of world).dirty ≡ [] → ⊥ = λ empty.
        let no : (length (kernel_of world).dirty == 0) ≡ true = ap (λ (xs : List ℕ). length xs == 0) empty in
        true≢false (sym no ∙ is) in
        absurd (omega (arith, q.dirty some, q.stopped ready.0 halted))
  go (Flying last f) = absurd (let no : Some last ≡ None = sym f.flies ∙ none in cc)
  go (IsToBeTold last c) = absurd (let no : Some last ≡ None = sym c.flies ∙ none in cc)

-- ---- what is served

progress_is : (old new : TracedView) (kernel : KernelView) → new ≡ with_kernel old kernel → with_progress old.kernel kernel ≡ kernel
    → new ≡ with_kernel old (with_progress old.kernel new.kernel)
progress_is old new kernel is progress =
    is ∙ ap (with_kernel old) (sym progress) ∙ ap (λ (s : TracedView). with_kernel old (with_progress old.kernel s.kernel)) (sym is)

-- ---- what it costs

open_alike : {D : Type 0} (old now : JournalView D) → IsSameBatch old now → still_open now ≡ still_open old
open_alike old now same = λ i. if same.is_last i then [] else (same.held i ++ record {
  place = same.place i;
  batch = record { number = same.number i; last = same.last i; numbers = same.numbers i; images = same.images i };
} ∷ [])

begun_alike : {D : Type 0} (old now : JournalView D) (kernel : KernelView) → IsSameBatch old now
    → sizes (begun now kernel) ≡ sizes (begun old kernel)
begun_alike old now kernel same =
    λ i. if length (open_alike old now same i) + 1 == same.segments i
    then carried_of (same.segments i) (open_alike old now same i ++ record {
      place = length (open_alike old now same i);
      batch = record {
        number = length (open_alike old now same i) + 1;
        last = length kernel.spool;
        numbers = kernel.dirty;
        images = map (λ n. slice_index_or kernel.blocks n []) kernel.dirty;
      };
    } ∷ [])
    else none_carried

nothing_left : {D : Type 0} (journal : JournalView D) → IsReady journal → (writes_left journal ≡ 0) × (syncs_left journal ≡ 0)
nothing_left journal ready = (
  let e : writes_made (length journal.numbers) (sizes journal) journal.next
      ≡ writes_made (length journal.numbers) (sizes journal) next.Idle =
      ap (writes_made (length journal.numbers) (sizes journal)) ready.1 in
      omega (arith, e),
  let e : syncs_made (sizes journal) journal.next ≡ syncs_made (sizes journal) next.Idle = ap (syncs_made (sizes journal)) ready.1 in
      omega (arith, e),
)

-- ---- Take, between two batches

module _ {D : Type 0} (device : D → Device) (write_grows sync_grows : Bool) (old first second new : WorldView D)
    (r : Result StepAnswer StepError) (before : FinishesBatch device write_grows sync_grows old (Ok tt) first)
    (took : DidTake first r second) (world : IsWorld device second)
    (during : EachSince (device first.journal.disk) (device second.journal.disk) (Fits first))
    (since : LeftFits (device first.journal.disk) (device second.journal.disk) (Fits first)) where
  abbrev kernel : KernelView
  kernel = kernel_of old

  -- there is a batch exactly if a block is dirty; none is, if the service was stopped
  has : has_batch (kernel_of first) ≡ not (length kernel.dirty == 0)
  has = ap (λ (s : TracedView). has_batch s.kernel) before.served ∙ by_halt kernel.halted refl
    where
      by_test : (b : Bool) → not (b || false || false) ≡ not b
      by_test true = refl
      by_test false = refl

      clean : kernel.halted ≡ true → (length kernel.dirty == 0) ≡ true
      clean halted =
          ap (λ (s : TracedView). length s.kernel.dirty == 0) (sym before.served)
          ∙ clean_when_stopped (device first.journal.disk).tells first before.keeps.tied before.ready
          (ap (λ (s : TracedView). s.kernel.in_flight) before.served) (ap (λ (s : TracedView). s.kernel.halted) before.served ∙ halted)

      by_halt : (halted : Bool) → kernel.halted ≡ halted
          → not (length kernel.dirty == 0 || false || kernel.halted) ≡ not (length kernel.dirty == 0)
      by_halt false is = ap (λ (b : Bool). not (length kernel.dirty == 0 || false || b)) is ∙ by_test (length kernel.dirty == 0)
      by_halt true is =
          ap (λ (b : Bool). not (b || false || kernel.halted)) (clean is) ∙ sym (ap not (clean is))

  -- what Take does
  record Takes : Type 0 where
    pub some : (length kernel.dirty == 0) ≡ false
    pub answers : r ≡ Ok (answer.Took (Some (length (kernel_of first).spool)))
    pub is : second ≡ record {
      journal = begun first.journal (kernel_of first);
      served = with_kernel first.served (taken (kernel_of first));
      untold = first.untold;
    }

  record Stays : Type 0 where
    pub none : (length kernel.dirty == 0) ≡ true
    pub answers : r ≡ Ok (answer.Took None)
    pub is : second ≡ first

  cases : Takes ⊎ Stays
  cases = go (length kernel.dirty == 0) refl where
    go : (b : Bool) → (length kernel.dirty == 0) ≡ b → Takes ⊎ Stays
    go false some =
        let t = took.takes before.ready (has ∙ ap not some) in
        inl (record { some = some; answers = t.0; is = t.1 })
    go true none =
        let no : has_batch (kernel_of first) ≡ false = has ∙ ap not none in
        let s = took.stays (λ ready is. absurd (true≢false (sym is ∙ no))) in
        inr (record { none = none; answers = s.0; is = s.1 })

  fine : r ≢ Err error.Memory
  fine is = ⊎_elim
      (λ (t : Takes). let no : Ok (answer.Took (Some (length (kernel_of first).spool))) ≡ Err error.Memory = sym t.answers ∙ is in cc)
      (λ (s : Stays). let no : Ok (answer.Took None) ≡ Err error.Memory = sym s.answers ∙ is in cc)
      cases

  inner : RunsInner {A = Unit {0}} device write_grows sync_grows old (Ok tt) second
  inner = inner_then device write_grows sync_grows old first second tt (Ok tt) before.inner
      (inner_one device write_grows sync_grows first second event.Take r (Ok tt) tt (λ _. fine) took world during since)

  -- the device is as it was, and the journal runs
  same_disk : second.journal.disk ≡ first.journal.disk
  same_disk = ⊎_elim (λ (t : Takes). ap (λ (w : WorldView D). w.journal.disk) t.is)
      (λ (s : Stays). ap (λ (w : WorldView D). w.journal.disk) s.is) cases

  runs_on : second.journal.halted ≡ false
  runs_on = ⊎_elim (λ (t : Takes). ap (λ (w : WorldView D). w.journal.halted) t.is ∙ before.ready.0)
      (λ (s : Stays). ap (λ (w : WorldView D). w.journal.halted) s.is ∙ before.ready.0) cases

  same_failures : (device second.journal.disk).failures ≡ (device old.journal.disk).failures
  same_failures = ap (λ (d : D). (device d).failures) same_disk ∙ before.still.failures

  -- the kernel after it
  served : (second.served ≡ with_kernel old.served (taken (with_batch_durable (kernel_of old))))
      ⊎ ((second.served ≡ with_kernel old.served (with_batch_durable (kernel_of old))) × ((kernel_of old).dirty ≡ []))
  served = ⊎_elim
      (λ (t : Takes). inl (ap (λ (w : WorldView D). w.served) t.is
      ∙ ap (λ (s : TracedView). with_kernel s (taken s.kernel)) before.served))
      (λ (s : Stays). inr (
        ap (λ (w : WorldView D). w.served) s.is ∙ before.served,
        nil_from_length (kernel_of old).dirty (eqb-true (length (kernel_of old).dirty) 0 s.none),
      ))
      cases

  pub settled_served : (result : Result (Unit {0}) StepError) → FinishesBatch device write_grows sync_grows second result new
      → new.served ≡ with_kernel old.served (with_progress (kernel_of old) (kernel_of new))
  settled_served (Ok done) after = ⊎_elim
      (λ (e : second.served ≡ with_kernel old.served (taken (with_batch_durable (kernel_of old)))).
      progress_is old.served new.served (with_batch_durable (taken (with_batch_durable (kernel_of old))))
      (after.served ∙ ap (λ (s : TracedView). with_kernel s (with_batch_durable s.kernel)) e) refl)
      (λ (e : (second.served ≡ with_kernel old.served (with_batch_durable (kernel_of old))) × ((kernel_of old).dirty ≡ [])).
      progress_is old.served new.served (with_batch_durable (with_batch_durable (kernel_of old)))
      (after.served ∙ ap (λ (s : TracedView). with_kernel s (with_batch_durable s.kernel)) e.0) refl)
      served
  settled_served (Err e) after = ⊎_elim
      (λ (is : second.served ≡ with_kernel old.served (taken (with_batch_durable (kernel_of old)))).
      progress_is old.served new.served (taken (with_batch_durable (kernel_of old))) (after.served ∙ is) refl)
      (λ (is : (second.served ≡ with_kernel old.served (with_batch_durable (kernel_of old))) × ((kernel_of old).dirty ≡ [])).
      progress_is old.served new.served (with_batch_durable (kernel_of old)) (after.served ∙ is.0) refl)
      served

  pub settled_inner : (result : Result (Unit {0}) StepError) → FinishesBatch device write_grows sync_grows second result new
      → RunsInner device write_grows sync_grows old result new
  settled_inner result after = inner_then device write_grows sync_grows old second new tt result inner after.inner

  pub settled : FinishesBatch device write_grows sync_grows second (Ok tt) new → IsSettled device (kernel_of old).halted new
  settled after =
      let parts : ((kernel_of new).in_flight ≡ None) × ((kernel_of new).dirty ≡ []) × ((kernel_of new).halted ≡ (kernel_of old).halted) =
      ⊎_elim
      (λ (e : second.served ≡ with_kernel old.served (taken (with_batch_durable (kernel_of old)))).
      let is : new.served ≡ with_kernel old.served (with_batch_durable (taken (with_batch_durable (kernel_of old)))) =
      after.served ∙ ap (λ (s : TracedView). with_kernel s (with_batch_durable s.kernel)) e in (
        ap (λ (s : TracedView). s.kernel.in_flight) is,
        ap (λ (s : TracedView). s.kernel.dirty) is,
        ap (λ (s : TracedView). s.kernel.halted) is,
      ))
      (λ (e : (second.served ≡ with_kernel old.served (with_batch_durable (kernel_of old))) × ((kernel_of old).dirty ≡ [])).
      let is : new.served ≡ with_kernel old.served (with_batch_durable (with_batch_durable (kernel_of old))) =
      after.served ∙ ap (λ (s : TracedView). with_kernel s (with_batch_durable s.kernel)) e.0 in (
        ap (λ (s : TracedView). s.kernel.in_flight) is,
        ap (λ (s : TracedView). s.kernel.dirty) is ∙ e.1,
        ap (λ (s : TracedView). s.kernel.halted) is,
      ))
      served in
      record {
        ready = after.ready;
        halted = parts.2;
        none = parts.0;
        clean = parts.1;
        told = after.told;
        durable = λ tells. durable_when_clean device new after.keeps tells parts.0 parts.1;
      }

  pub settled_still : FinishesBatch device write_grows sync_grows second (Ok tt) new → IsStill device old new
  settled_still after = record { ran = before.still.ran; failures = after.still.failures ∙ same_failures }

  pub settled_cost : FinishesBatch device write_grows sync_grows second (Ok tt) new → CostsToSettle device old (device new.journal.disk)
  settled_cost after = ⊎_elim taking staying cases where
    writes : IsMore (writes_left second.journal) (device first.journal.disk).writes (device new.journal.disk).writes
    writes = subst (λ (d : D). IsMore (writes_left second.journal) (device d).writes (device new.journal.disk).writes) same_disk
        after.writes

    syncs : IsMore (syncs_left second.journal) (device first.journal.disk).syncs (device new.journal.disk).syncs
    syncs = subst (λ (d : D). IsMore (syncs_left second.journal) (device d).syncs (device new.journal.disk).syncs) same_disk after.syncs

    costs : (w s : ℕ) → writes_left second.journal ≡ w → syncs_left second.journal ≡ s
        → w ≡ (if length (kernel_of old).dirty == 0 then 0 else writes_left (begun old.journal (kernel_of old)))
        → s ≡ (if length (kernel_of old).dirty == 0 then 0 else syncs_left (begun old.journal (kernel_of old)))
        → CostsToSettle device old (device new.journal.disk)
    costs w s w_is s_is w_as s_as = record {
      writes = subst (λ (k : ℕ). IsMore (writes_left old.journal + k) (device old.journal.disk).writes (device new.journal.disk).writes)
          (w_is ∙ w_as) (more_then _ _ _ _ _ before.writes writes);
      syncs = subst (λ (k : ℕ). IsMore (syncs_left old.journal + k) (device old.journal.disk).syncs (device new.journal.disk).syncs)
          (s_is ∙ s_as) (more_then _ _ _ _ _ before.syncs syncs);
    }

    taking : Takes → CostsToSettle device old (device new.journal.disk)
    taking t =
        let journal : second.journal ≡ begun first.journal (with_batch_durable (kernel_of old)) =
        ap (λ (w : WorldView D). w.journal) t.is ∙ ap (λ (s : TracedView). begun first.journal s.kernel) before.served in
        let alike = begun_alike old.journal first.journal (kernel_of old) before.same in
        let n = length (kernel_of old).dirty in
        costs (writes_left (begun old.journal (kernel_of old))) (syncs_left (begun old.journal (kernel_of old)))
        (ap writes_left journal ∙ ap (λ (carried : Carried). writes_made n carried next.Idle - writes_made n carried next.Descriptor) alike)
        (ap syncs_left journal ∙ ap (λ (carried : Carried). syncs_made carried next.Idle - syncs_made carried next.Descriptor) alike)
        (sym (ap (λ (b : Bool). if b then 0 else writes_left (begun old.journal (kernel_of old))) t.some))
        (sym (ap (λ (b : Bool). if b then 0 else syncs_left (begun old.journal (kernel_of old))) t.some))

    staying : Stays → CostsToSettle device old (device new.journal.disk)
    staying s =
        let none = nothing_left first.journal before.ready in
        let journal : second.journal ≡ first.journal = ap (λ (w : WorldView D). w.journal) s.is in
        costs 0 0 (ap writes_left journal ∙ none.0) (ap syncs_left journal ∙ none.1)
        (sym (ap (λ (b : Bool). if b then 0 else writes_left (begun old.journal (kernel_of old))) s.none))
        (sym (ap (λ (b : Bool). if b then 0 else syncs_left (begun old.journal (kernel_of old))) s.none))

  pub settled_hindered : (e : StepError) → FinishesBatch device write_grows sync_grows second (Err e) new
      → IsHindered device old new (IsTrue (write_grows || sync_grows)) e
  settled_hindered e after = go after.hindered where
    go : IsHindered device second new (IsTrue (write_grows || sync_grows)) e
        → IsHindered device old new (IsTrue (write_grows || sync_grows)) e
    go (inl (_, is, fails)) = inl (before.still.ran, is, λ same. fails (same ∙ sym same_failures))
    go (inr (inl (stopped, is, same))) = absurd (true≢false (sym stopped ∙ runs_on))
    go (inr (inr (_, is, same, grows))) = inr (inr (before.still.ran, is, same ∙ same_failures, grows))

-- ---- the first batch was not finished

pub unsettled_served : {D : Type 0} (device : D → Device) (write_grows sync_grows : Bool) (old new : WorldView D) (e : StepError)
    → FinishesBatch device write_grows sync_grows old (Err e) new
    → new.served ≡ with_kernel old.served (with_progress (kernel_of old) (kernel_of new))
unsettled_served device write_grows sync_grows old new e h = progress_is old.served new.served (kernel_of old) h.served refl

-- ---- all that is said of it

pub record Settles {D : Type 0} (device : D → Device) (write_grows sync_grows : Bool) (old : WorldView D)
    (result : Result (Unit {0}) StepError) (new : WorldView D) : Type 0 where
  pub inner : RunsInner device write_grows sync_grows old result new
  pub served : new.served ≡ with_kernel old.served (with_progress (kernel_of old) (kernel_of new))
  pub ok : OnOk result (IsSettled device (kernel_of old).halted new)
  pub still : OnOk result (IsStill device old new)
  pub cost : OnOk result (CostsToSettle device old (device new.journal.disk))
  pub hindered : IfErr result (IsHindered device old new (IsTrue (write_grows || sync_grows)))
  pub now : EachNow (device new.journal.disk) (Fits new)
  pub keeps : IsWorld device new

module _ {D : Type 0} (device : D → Device) (write_grows sync_grows : Bool) (old new : WorldView D) where
  pub unsettled : (e : StepError) → FinishesBatch device write_grows sync_grows old (Err e) new
      → Settles device write_grows sync_grows old (Err e) new
  unsettled e h = record {
    inner = h.inner;
    served = unsettled_served device write_grows sync_grows old new e h;
    ok = tt;
    still = tt;
    cost = tt;
    hindered = h.hindered;
    now = now_fits device new h.keeps;
    keeps = h.keeps;
  }

  pub settles : (first second : WorldView D) (r : Result StepAnswer StepError) (result : Result (Unit {0}) StepError)
      → FinishesBatch device write_grows sync_grows old (Ok tt) first → DidTake first r second → IsWorld device second
      → EachSince (device first.journal.disk) (device second.journal.disk) (Fits first)
      → LeftFits (device first.journal.disk) (device second.journal.disk) (Fits first)
      → FinishesBatch device write_grows sync_grows second result new → Settles device write_grows sync_grows old result new
  settles first second r (Ok done) before took world during since after = record {
    inner = settled_inner device write_grows sync_grows old first second new r before took world during since (Ok done) after;
    served = settled_served device write_grows sync_grows old first second new r before took world during since (Ok done) after;
    ok = settled device write_grows sync_grows old first second new r before took world during since after;
    still = settled_still device write_grows sync_grows old first second new r before took world during since after;
    cost = settled_cost device write_grows sync_grows old first second new r before took world during since after;
    hindered = tt;
    now = now_fits device new after.keeps;
    keeps = after.keeps;
  }
  settles first second r (Err e) before took world during since after = record {
    inner = settled_inner device write_grows sync_grows old first second new r before took world during since (Err e) after;
    served = settled_served device write_grows sync_grows old first second new r before took world during since (Err e) after;
    ok = tt;
    still = tt;
    cost = tt;
    hindered = settled_hindered device write_grows sync_grows old first second new r before took world during since e after;
    now = now_fits device new after.keeps;
    keeps = after.keeps;
  }
