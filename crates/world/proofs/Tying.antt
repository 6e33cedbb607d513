-- Each event keeps the tie between journal and kernel.
use Rattle.std.proofs.Common.{◌≡◌, ◌≢◌, ◌⊎◌, inl, inr, ⊎_elim, ℕ, ◌≤◌, ◌<◌, ◌==◌, Bool, true, false, List, [], ◌∷◌, ◌++◌, length, take}
use Rattle.std.proofs.Common.{Option, Some, None, refl, ap, sym, ◌∙◌, subst, arith, length-append, ◌+◌}
use Rattle.std.specs.Prelude.{bytes_eq, slice_index_or, not, ◌||◌, is_some, if◌then◌else◌, IfErr, IsTrue, map, Result, Ok, Err}
use Rattle.std.specs.Option.{option_to_list}
use Rattle.std.proofs.lemmas.List.{append-nil, take-append-le, take_all}
use Rattle.std.proofs.lemmas.Slice.Eq.{bytes_eq-Decides}
use Rattle.std.proofs.lemmas.Bool.{or_parts, not-false, not-true, true≢false}
use Rattle.disk.specs.Device.{Device}
use Rattle.journal.specs.Calls.{IsRetried, MakesCall, OnMade, OnRetried, blocks_after}
use Rattle.journal.specs.Journal.{JournalView, IsReady, IsSameBatch, sizes, with_batch}
use Rattle.journal.specs.Order.{Carried, is_to_commit, answer, at_fault, following}
use Rattle.journal.specs.declared.JournalError.{JournalError}
use Rattle.journal.specs.declared.JournalError.TheVariants.{Fault, Memory}
use Rattle.journal.specs.declared.Next.{Next}
use Rattle.journal.specs.declared.Next.TheVariants as next
use Rattle.journal.specs.declared.Progress.{Progress}
use Rattle.journal.specs.declared.Progress.TheVariants.{Working}
use Rattle.kernel.specs.Kernel.{KernelView, AgreesBehind, Dirties, Executed, Administers, has_batch, halted_for_good, is_dirty}
use Rattle.kernel.specs.Kernel.{made_durable, mark_for, taken}
use Rattle.kernel_seats.specs.Seats.{Seat}
use Rattle.kernel.specs.Kept.{IsKept}
use Rattle.model.specs.Layout.{IsLabel}
use Rattle.model.specs.Answer as answers
use Rattle.model.specs.Answer.{is_long}
use Rattle.model.specs.News.{Holds, answer as answer_to}
use Rattle.model.specs.Room.{is_full}
use Rattle.model.specs.Spool.{Spool}
use Rattle.model.specs.Stream.{Octets}
use Rattle.model.specs.Volume.{laid_over}
use Rattle.model.specs.declared.change.Change.{Change}
use Rattle.model.specs.declared.message.Mark.{Mark}
use Rattle.model.specs.declared.message.Mark.TheVariants as marks
use Rattle.model.specs.declared.message.Message.{Message}
use Rattle.model.proofs.LawfulLaws.{none_by_test}
use Rattle.kernel_trace.specs.Traced.{TracedView}
use Rattle.kernel_trace.specs.Events.{with_kernel}
use Rattle.world.specs.World.{News, IsDurable, HasFailed, WorldView, kernel_of, with_served}
use Rattle.world.specs.Events.{begun, news_of, Steps}
use Rattle.world.specs.Tied.{AreFaults, AreFaultsOrStopped, DirtyAfter, IsTied, IsQuiet, IsFlying, LieBehind, Phase, Quiet, Flying}
use Rattle.world.specs.Tied.{IsToBeTold}
use Rattle.world.proofs.Fitting.{flying_last}
use Rattle.journal.proofs.Waiting.{idle_or_flies, past_answer, past_at_fault, past_commit, past_following, waits_at_fault, waits_or_commits}

-- ---- the kernel accepts more

-- the kernel has perhaps more changes, and nothing else of it that the tie speaks of has changed
pub record Grows (old new : KernelView) : Type 0 where
  pub host : new.host ≡ old.host
  pub inodes : new.inodes ≡ old.inodes
  pub durable : new.durable ≡ old.durable
  pub in_flight : new.in_flight ≡ old.in_flight
  pub halted : new.halted ≡ old.halted
  pub more : Spool
  pub spool : new.spool ≡ old.spool ++ more
  pub size : length new.blocks ≡ length old.blocks
  pub agrees : (base : List Octets) → AgreesBehind old base → AgreesBehind new base
  pub dirty : (p : ℕ) → p ≤ length old.spool → DirtyAfter old p → DirtyAfter new p
  -- a kernel that is halted accepts nothing
  pub still : old.halted ≡ true → more ≡ []

-- blocks that the old cache had but for its dirty ones, the new one has but for its own
agrees_still : (old new : KernelView) (base : List Octets) → Dirties old new → AgreesBehind old base → AgreesBehind new base
agrees_still old new base d h = record { size = h.size ∙ sym d.size; clean = clean }
  where
    clean : (k : ℕ) → k < length new.blocks → is_dirty new k ≡ false → slice_index_or base k [] ≡ slice_index_or new.blocks k []
    clean k lt is =
        let parts = or_parts (is_dirty old k) (not (bytes_eq (slice_index_or old.blocks k []) (slice_index_or new.blocks k [])))
        (sym (d.exactly k lt) ∙ is) in
        let same : slice_index_or old.blocks k [] ≡ slice_index_or new.blocks k [] =
        (bytes_eq-Decides (slice_index_or old.blocks k []) (slice_index_or new.blocks k [])).0 (not-false _ parts.1) in
        h.clean k (omega (arith, d.size)) parts.0 ∙ same

pub Grows-refl : (kernel : KernelView) (joined : ℕ) (seats : List Seat) → Grows kernel (record kernel { joined = joined; seats = seats })
Grows-refl kernel joined seats =
    record {
      host = refl;
      inodes = refl;
      durable = refl;
      in_flight = refl;
      halted = refl;
      more = [];
      spool = sym (append-nil kernel.spool);
      size = refl;
      agrees = λ base h. record { size = h.size; clean = h.clean };
      dirty = λ p le h. h;
      still = λ halted. refl;
    }

-- a stopped session is answered without a change
mark_stops : (kernel : KernelView) (seat : Seat) (m : Message) (t : ℕ) (mark : Mark) → mark ≡ mark_for kernel seat.session m t
    → kernel.halted ≡ true → (answer_to kernel.host kernel.spool seat.session m t mark).change ≡ None
unfolding answers.answer
mark_stops kernel seat m t mark is halted =
    ap (λ k. (answer_to kernel.host kernel.spool seat.session m t k).change) (is ∙ ap (λ b. if b then marks.Stopped
    else if is_long kernel.host kernel.spool seat.session m then marks.Long
    else if is_full kernel.blocks kernel.inodes kernel.spool
    (answer_to kernel.host kernel.spool seat.session m t marks.Served).change then marks.Full
    else marks.Served) halted)

pub Grows-executed : (old new : KernelView) (seat : Seat) (m : Message) (t : ℕ) (mark : Mark)
    → mark ≡ mark_for old seat.session m t → Executed old new seat m t mark → Grows old new
Grows-executed old new seat m t mark marked e =
    record {
      host = e.host;
      inodes = e.inodes;
      durable = e.durable;
      in_flight = e.in_flight;
      halted = e.halted;
      more = option_to_list (answer_to old.host old.spool seat.session m t mark).change;
      spool = e.spool;
      size = e.blocks.size;
      agrees = λ base h. agrees_still old new base e.blocks h;
      dirty = λ p le h. dirty_still p le h made refl;
      still = λ halted. ap option_to_list (mark_stops old seat m t mark marked halted);
    }
  where
    made : Option Change
    made = (answer_to old.host old.spool seat.session m t mark).change

    dirty_still : (p : ℕ) → p ≤ length old.spool → DirtyAfter old p → (c : Option Change) → made ≡ c → DirtyAfter new p
    dirty_still p le h None is some =
        let same = e.still is in
        let was : p < length old.spool = h (λ none. some (same.1 ∙ none)) in
        let spool : length new.spool ≡ length old.spool = ap length (e.spool ∙ ap (λ c. old.spool ++ option_to_list c) is
        ∙ append-nil old.spool) in
        omega (arith, was, spool)
    dirty_still p le h (Some c) is some =
        let spool : length new.spool ≡ length old.spool + 1 =
        ap length (e.spool ∙ ap (λ c. old.spool ++ option_to_list c) is) ∙ length-append old.spool (c ∷ []) in
        omega (arith, le, spool)

pub Grows-administers : (old new : KernelView) (change : Change) (serial : ℕ) → old.halted ≡ false → Administers old new change serial
    → Grows old new
Grows-administers old new change serial runs a =
    record {
      host = a.rest.0;
      inodes = a.rest.1;
      durable = a.rest.3;
      in_flight = a.rest.4;
      halted = a.rest.5;
      more = change ∷ [];
      spool = a.spool;
      size = a.blocks.size;
      agrees = λ base h. agrees_still old new base a.blocks h;
      dirty = λ p le h some. omega (arith, le, ap length a.spool, length-append old.spool (change ∷ []));
      still = λ halted. absurd (true≢false (sym halted ∙ runs));
    }

module _ (old new : KernelView) (g : Grows old new) where
  first_stays : (p : ℕ) → p ≤ length old.spool → take p new.spool ≡ take p old.spool
  first_stays p le = ap (take p) g.spool ∙ take-append-le p old.spool g.more le

  holds_still : (blocks : List Octets) (p : ℕ) → p ≤ length old.spool → Holds old.host old.inodes blocks (take p old.spool)
      → Holds new.host new.inodes blocks (take p new.spool)
  holds_still blocks p le h =
      subst (λ (t : Octets × ℕ × Spool). Holds t.0 t.1 blocks t.2) (λ i. (sym g.host i, sym g.inodes i, sym (first_stays p le) i)) h

  lie_still : (blocks : List Octets) (p : ℕ) → p ≤ length old.spool → LieBehind old blocks p → LieBehind new blocks p
  lie_still blocks p le h = record { agrees = g.agrees blocks h.agrees; holds = holds_still blocks p le h.holds }

  phase_grows : {D : Type 0} (tells : Bool) (journal : JournalView D) (untold : List News) → IsKept old → Phase tells journal old untold
      → Phase tells journal new untold
  phase_grows tells journal untold kept (Quiet q) =
      Quiet (record {
        none = g.in_flight ∙ q.none;
        past = q.past;
        blocks = λ t. subst (LieBehind new journal.blocks) (sym g.durable) (lie_still journal.blocks old.durable kept.durable (q.blocks t));
        dirty = subst (DirtyAfter new) (sym g.durable) (g.dirty old.durable kept.durable q.dirty);
        faults = subst (λ b. AreFaultsOrStopped journal.halted b untold) (sym g.halted) q.faults;
        stopped = λ runs halted.
            let was : old.halted ≡ true = sym g.halted ∙ halted in
            g.durable ∙ q.stopped runs was
            ∙ ap length (sym (append-nil old.spool) ∙ ap (λ xs. old.spool ++ xs) (sym (g.still was)) ∙ sym g.spool);
      })
  phase_grows tells journal untold kept (Flying last f) =
      let le = flying_last old last kept f.flies in
      Flying last (record {
        flies = g.in_flight ∙ f.flies;
        last_is = f.last_is;
        waits = f.waits;
        size = λ t. f.size t ∙ sym g.size;
        before = λ t. subst (λ p. Holds new.host new.inodes journal.blocks (take p new.spool)) (sym g.durable)
            (holds_still journal.blocks old.durable kept.durable (f.before t));
        after = λ t. lie_still (with_batch journal) last le.1 (f.after t);
        more = omega (arith, g.durable, f.more);
        dirty = g.dirty last le.1 f.dirty;
        faults = subst (λ b. AreFaults journal.halted b untold) (sym g.halted) f.faults;
      })
  phase_grows tells journal untold kept (IsToBeTold last c) =
      let le = flying_last old last kept c.flies in
      IsToBeTold last (record {
        flies = g.in_flight ∙ c.flies;
        past = c.past;
        blocks = λ t. lie_still journal.blocks last le.1 (c.blocks t);
        more = omega (arith, g.durable, c.more);
        dirty = g.dirty last le.1 c.dirty;
        running = g.halted ∙ c.running;
        later = c.later;
        told = c.told;
        faults = c.faults;
      })

-- the sessions and the kernel's changes go on
pub IsTied-grows : {D : Type 0} (tells : Bool) (world : WorldView D) (served : TracedView) → IsKept (kernel_of world)
    → Grows (kernel_of world) served.kernel → IsTied tells world → IsTied tells (with_served world served)
IsTied-grows tells world served kept g h =
    record {
      label = subst (λ (t : ℕ × ℕ × Octets). IsLabel world.journal.label t.0 t.1 t.2) (λ i. (sym g.size i, sym g.inodes i, sym g.host i))
          h.label;
      size = h.size ∙ sym g.size;
      format = h.format;
      phase = phase_grows (kernel_of world) served.kernel g tells world.journal world.untold kept h.phase;
    }

-- ---- Take

-- where there is a batch, none is in flight, and the kernel runs
pub batch_parts : (kernel : KernelView) → has_batch kernel ≡ true → (kernel.in_flight ≡ None) × (kernel.halted ≡ false)
batch_parts kernel is =
    let all = or_parts ((length kernel.dirty == 0) || is_some kernel.in_flight) kernel.halted (not-true _ is) in
    let some = or_parts (length kernel.dirty == 0) (is_some kernel.in_flight) all.0 in
    (none_by_test kernel.in_flight some.1, all.1)

-- a block is dirty
some_dirty : (kernel : KernelView) → has_batch kernel ≡ true → kernel.dirty ≢ []
some_dirty kernel is none =
    let no : has_batch kernel ≡ false = ap (λ (xs : List ℕ). not (length xs == 0 || is_some kernel.in_flight || kernel.halted)) none in
    true≢false (sym is ∙ no)

-- a kernel that runs was not stopped
faults_alone : (journal_halted halted : Bool) (news : List News) → halted ≡ false → AreFaultsOrStopped journal_halted halted news
    → AreFaults journal_halted halted news
faults_alone false halted news runs h = (runs, h)
faults_alone true false news runs h = h
faults_alone true true news runs h = absurd (true≢false runs)

pub or_stopped : (journal_halted halted : Bool) (news : List News) → AreFaults journal_halted halted news
    → AreFaultsOrStopped journal_halted halted news
or_stopped false halted news h = h.1
or_stopped true false news h = h
or_stopped true true news h = inl h

pub IsTied-takes : {D : Type 0} (tells : Bool) (world : WorldView D) → IsKept (kernel_of world) → IsReady world.journal
    → has_batch (kernel_of world) ≡ true
    → ((base : List Octets) → AgreesBehind (kernel_of world) base
    → laid_over base (kernel_of world).dirty (map (λ n. slice_index_or (kernel_of world).blocks n []) (kernel_of world).dirty)
    ≡ (kernel_of world).blocks)
    → IsTied tells world → IsTied tells (record {
      journal = begun world.journal (kernel_of world);
      served = with_kernel world.served (taken (kernel_of world));
      untold = world.untold;
    })
IsTied-takes {D} tells world kept ready has lays h = record { label = h.label; size = h.size; format = h.format; phase = go h.phase }
  where
    kernel : KernelView
    kernel = kernel_of world

    journal : JournalView D
    journal = world.journal

    parts : (kernel.in_flight ≡ None) × (kernel.halted ≡ false)
    parts = batch_parts kernel has

    all : take (length kernel.spool) kernel.spool ≡ kernel.spool
    all = take_all (length kernel.spool) kernel.spool (omega arith)

    lies : (blocks : List Octets) → blocks ≡ kernel.blocks → LieBehind (taken kernel) blocks (length kernel.spool)
    lies blocks is =
        record {
          agrees = record { size = ap length is; clean = λ k lt clean. ap (λ xs. slice_index_or xs k []) is };
          holds = subst (λ (t : List Octets × Spool). Holds kernel.host kernel.inodes t.0 t.1) (λ i. (sym is i, sym all i)) kept.cache;
        }

    go : Phase tells journal kernel world.untold → Phase tells (begun journal kernel) (taken kernel) world.untold
    go (Quiet q) =
        Flying (length kernel.spool) (record {
          flies = refl;
          last_is = refl;
          waits = refl;
          size = λ t. let b : LieBehind kernel journal.blocks kernel.durable = q.blocks t in b.agrees.size;
          before = λ t. let b : LieBehind kernel journal.blocks kernel.durable = q.blocks t in b.holds;
          after = λ t. let b : LieBehind kernel journal.blocks kernel.durable = q.blocks t in
              lies (with_batch (begun journal kernel)) (lays journal.blocks b.agrees);
          more = q.dirty (some_dirty kernel has);
          dirty = λ some. absurd (some refl);
          faults = faults_alone journal.halted kernel.halted world.untold parts.1 q.faults;
        })
    go (Flying last f) = absurd (let both : Some last ≡ None = sym f.flies ∙ parts.0 in cc)
    go (IsToBeTold last c) = absurd (let both : Some last ≡ None = sym c.flies ∙ parts.0 in cc)

-- ---- Dev

-- before the commit a batch waits on
abbrev WaitsOn : ℕ → Carried → Next → Type 0
WaitsOn n carried call = (is_to_commit (following n carried call) ≡ true) × ((last : ℕ) → answer last carried call ≡ Working)

-- what a call leaves of what the tie speaks of
module _ {D : Type 0} (tells : Bool) (old new : JournalView D) (kernel : KernelView) (runs : old.halted ≡ false) where
  -- the blocks stay, and so do they with the batch
  lies_on : (p : ℕ) → (IsTrue tells → new.blocks ≡ old.blocks) → (IsTrue tells → LieBehind kernel old.blocks p) → IsTrue tells
      → LieBehind kernel new.blocks p
  lies_on p same h t = subst (λ blocks. LieBehind kernel blocks p) (sym (same t)) (h t)

  -- a good call that commits nothing, of a batch that is committed, or of none
  phase_past : (untold : List News) → is_to_commit new.next ≡ false → new.halted ≡ false → (IsTrue tells → new.blocks ≡ old.blocks)
      → is_to_commit old.next ≡ false → Phase tells old kernel untold → Phase tells new kernel untold
  phase_past untold past halted same was (Quiet q) =
      Quiet (record {
        none = q.none;
        past = past;
        blocks = lies_on kernel.durable same q.blocks;
        dirty = q.dirty;
        faults = subst (λ b. AreFaultsOrStopped b kernel.halted untold) (runs ∙ sym halted) q.faults;
        stopped = λ now. q.stopped runs;
      })
  phase_past untold past halted same was (Flying last f) = absurd (let both : true ≡ false = sym f.waits ∙ was in cc)
  phase_past untold past halted same was (IsToBeTold last c) =
      IsToBeTold last (record {
        flies = c.flies;
        past = past;
        blocks = lies_on last same c.blocks;
        more = c.more;
        dirty = c.dirty;
        running = c.running;
        later = c.later;
        told = c.told;
        faults = subst (λ b. AreFaults b false c.later) (runs ∙ sym halted) c.faults;
      })

  -- the journal runs, so no fault is untold
  no_faults : (halted : Bool) (news : List News) → AreFaults old.halted halted news → (halted ≡ false) × (news ≡ [])
  no_faults halted news h = subst (λ b. AreFaults b halted news) runs h

  faulted : (halted : Bool) (news : List News) → AreFaults old.halted halted news → new.halted ≡ true
      → AreFaults new.halted halted (news ++ HasFailed ∷ [])
  faulted halted news h is =
      let f = no_faults halted news h in
      subst (λ (t : Bool × Bool × List News). AreFaults t.0 t.1 (t.2 ++ HasFailed ∷ [])) (λ i. (sym is i, sym f.0 i, sym f.1 i)) refl

  -- the same if the service may have been stopped
  failed : (halted : Bool) (news : List News) → AreFaultsOrStopped old.halted halted news → new.halted ≡ true
      → AreFaultsOrStopped new.halted halted (news ++ HasFailed ∷ [])
  failed halted news h is =
      let none : news ≡ [] = subst (λ b. AreFaultsOrStopped b halted news) runs h in
      subst (λ (t : Bool × List News). AreFaultsOrStopped t.0 halted (t.1 ++ HasFailed ∷ [])) (λ i. (sym is i, sym none i)) (go halted)
    where
      go : (b : Bool) → AreFaultsOrStopped true b (HasFailed ∷ [])
      go false = refl
      go true = inr refl

  with_batch_on : new.numbers ≡ old.numbers → new.images ≡ old.images → (IsTrue tells → new.blocks ≡ old.blocks) → IsTrue tells
      → with_batch new ≡ with_batch old
  with_batch_on numbers images same t = λ i. laid_over (same t i) (numbers i) (images i)

  -- a batch that waits on
  flies_on : (last : ℕ) (untold news : List News) → IsFlying tells old kernel untold last → new.last ≡ old.last → new.numbers ≡ old.numbers
      → new.images ≡ old.images → (IsTrue tells → new.blocks ≡ old.blocks) → is_to_commit new.next ≡ true
      → AreFaults new.halted kernel.halted news → IsFlying tells new kernel news last
  flies_on last untold news f last_is numbers images same waits faults =
      record {
        flies = f.flies;
        last_is = last_is ∙ f.last_is;
        waits = waits;
        size = λ t. ap length (same t) ∙ f.size t;
        before = λ t. subst (λ blocks. Holds kernel.host kernel.inodes blocks (take kernel.durable kernel.spool)) (sym (same t))
            (f.before t);
        after = λ t. subst (λ blocks. LieBehind kernel blocks last) (sym (with_batch_on numbers images same t)) (f.after t);
        more = f.more;
        dirty = f.dirty;
        faults = faults;
      }

  -- a call that failed
  phase_faulted : (untold : List News) (n : ℕ) → new.next ≡ at_fault n (sizes old) old.next → new.halted ≡ true → new.last ≡ old.last
      → new.numbers ≡ old.numbers → new.images ≡ old.images → (IsTrue tells → new.blocks ≡ old.blocks)
      → Phase tells old kernel untold → Phase tells new kernel (untold ++ HasFailed ∷ [])
  phase_faulted untold n call halted last_is numbers images same (Quiet q) =
      Quiet (record {
        none = q.none;
        past = ap is_to_commit call ∙ past_at_fault n (sizes old) old.next q.past;
        blocks = lies_on kernel.durable same q.blocks;
        dirty = q.dirty;
        faults = failed kernel.halted untold q.faults halted;
        stopped = λ now. absurd (true≢false (sym halted ∙ now));
      })
  phase_faulted untold n call halted last_is numbers images same (Flying last f) =
      Flying last (flies_on last untold (untold ++ HasFailed ∷ []) f last_is numbers images same (ap is_to_commit call
      ∙ waits_at_fault n (sizes old) old.next f.waits) (faulted kernel.halted untold f.faults halted))
  phase_faulted untold n call halted last_is numbers images same (IsToBeTold last c) =
      IsToBeTold last (record {
        flies = c.flies;
        past = ap is_to_commit call ∙ past_at_fault n (sizes old) old.next c.past;
        blocks = lies_on last same c.blocks;
        more = c.more;
        dirty = c.dirty;
        running = c.running;
        later = c.later ++ HasFailed ∷ [];
        told = ap (λ xs. xs ++ HasFailed ∷ []) c.told;
        faults = faulted false c.later c.faults halted;
      })

  -- a call that the device refused for want of memory
  phase_retried : (untold : List News) → new.next ≡ old.next → new.halted ≡ old.halted → new.last ≡ old.last → new.numbers ≡ old.numbers
      → new.images ≡ old.images → (IsTrue tells → new.blocks ≡ old.blocks) → Phase tells old kernel untold → Phase tells new kernel untold
  phase_retried untold call halted last_is numbers images same (Quiet q) =
      Quiet (record {
        none = q.none;
        past = ap is_to_commit call ∙ q.past;
        blocks = lies_on kernel.durable same q.blocks;
        dirty = q.dirty;
        faults = subst (λ b. AreFaultsOrStopped b kernel.halted untold) (sym halted) q.faults;
        stopped = λ now. q.stopped runs;
      })
  phase_retried untold call halted last_is numbers images same (Flying last f) =
      Flying last (flies_on last untold untold f last_is numbers images same (ap is_to_commit call
      ∙ f.waits) (subst (λ b. AreFaults b kernel.halted untold) (sym halted) f.faults))
  phase_retried untold call halted last_is numbers images same (IsToBeTold last c) =
      IsToBeTold last (record {
        flies = c.flies;
        past = ap is_to_commit call ∙ c.past;
        blocks = lies_on last same c.blocks;
        more = c.more;
        dirty = c.dirty;
        running = c.running;
        later = c.later;
        told = c.told;
        faults = subst (λ b. AreFaults b false c.later) (sym halted) c.faults;
      })

  -- a call that went well
  phase_went : (untold : List News) (n : ℕ) → new.next ≡ following n (sizes old) old.next → new.halted ≡ false → new.last ≡ old.last
      → new.numbers ≡ old.numbers → new.images ≡ old.images
      → (IsTrue tells → new.blocks ≡ blocks_after old (answer old.last (sizes old) old.next))
      → Phase tells old kernel untold → Phase tells new kernel (untold ++ news_of (Ok (answer old.last (sizes old) old.next)))
  phase_went untold n call halted last_is numbers images blocks phase = go (is_to_commit old.next) refl
    where
      goes_past : is_to_commit old.next ≡ false → Phase tells new kernel (untold ++ news_of (Ok (answer old.last (sizes old) old.next)))
      goes_past was =
          subst (Phase tells new kernel) (sym
          (ap (λ xs. untold ++ xs) (past_answer (λ p. news_of (Ok p) ≡ []) old.last (sizes old) old.next refl refl was)
          ∙ append-nil untold))
          (phase_past untold (ap is_to_commit call ∙ past_following n (sizes old) old.next was) halted (λ t. blocks t
          ∙ past_answer (λ p. blocks_after old p ≡ old.blocks) old.last (sizes old) old.next refl refl was) was phase)

      commits : old.next ≡ next.Commit → Phase tells old kernel untold
          → Phase tells new kernel (untold ++ news_of (Ok (answer old.last (sizes old) old.next)))
      commits is (Quiet q) = absurd (let both : true ≡ false = sym (ap is_to_commit is) ∙ q.past in cc)
      commits is (IsToBeTold last c) = absurd (let both : true ≡ false = sym (ap is_to_commit is) ∙ c.past in cc)
      commits is (Flying last f) =
          let quiet = no_faults kernel.halted untold f.faults in
          IsToBeTold last (record {
            flies = f.flies;
            past = ap is_to_commit (call ∙ ap (following n (sizes old)) is) ∙ past_commit n (sizes old);
            blocks = λ t. subst (λ blocks. LieBehind kernel blocks last)
                (sym (blocks t ∙ ap (λ (c : Next). blocks_after old (answer old.last (sizes old) c)) is)) (f.after t);
            more = f.more;
            dirty = f.dirty;
            running = quiet.0;
            later = [];
            told = (λ i. quiet.1 i ++ news_of (Ok (answer (f.last_is i) (sizes old) (is i))));
            faults = subst (λ b. AreFaults b false []) (sym halted) (refl, refl);
          })

      waits_on : WaitsOn n (sizes old) old.next → Phase tells old kernel untold → is_to_commit old.next ≡ true
          → Phase tells new kernel (untold ++ news_of (Ok (answer old.last (sizes old) old.next)))
      waits_on w (Quiet q) was = absurd (let both : true ≡ false = sym was ∙ q.past in cc)
      waits_on w (IsToBeTold last c) was = absurd (let both : true ≡ false = sym was ∙ c.past in cc)
      waits_on w (Flying last f) was =
          subst (Phase tells new kernel) (sym (ap (λ xs. untold ++ xs) (ap (λ p. news_of (Ok p)) (w.1 old.last)) ∙ append-nil untold))
          (Flying last (flies_on last untold untold f last_is numbers images (λ t. blocks t ∙ ap (blocks_after old) (w.1 old.last))
          (ap is_to_commit call ∙ w.0) (subst (λ b. AreFaults b kernel.halted untold) (runs ∙ sym halted) f.faults)))

      go : (b : Bool) → is_to_commit old.next ≡ b → Phase tells new kernel (untold ++ news_of (Ok (answer old.last (sizes old) old.next)))
      go false was = goes_past was
      go true was = ⊎_elim (λ (is : old.next ≡ next.Commit). commits is phase)
          (λ (w : WaitsOn n (sizes old) old.next). waits_on w phase was) (waits_or_commits n (sizes old) old.next was)

-- one call of a batch in flight
phase_calls : {D : Type 0} (device : D → Device) (tells : Bool) (old new : JournalView D) (kernel : KernelView) (untold : List News)
    (answered : Result Progress JournalError) → tells ≡ (device old.disk).tells → old.halted ≡ false
    → OnMade answered (MakesCall device old new answered) → OnRetried answered (IsRetried device old new)
    → IfErr answered (λ error. (error ≡ Fault) ⊎ (error ≡ Memory))
    → Phase tells old kernel untold → Phase tells new kernel (untold ++ news_of answered)
phase_calls device tells old new kernel untold (Ok progress) same runs m retried errors phase =
    subst (λ p. Phase tells new kernel (untold ++ news_of (Ok p))) (sym m.answers)
    (phase_went tells old new kernel runs untold (length old.numbers) m.next.0 m.next.1 m.same.last m.same.numbers m.same.images
    (λ t. m.blocks (subst IsTrue same t) ∙ ap (blocks_after old) m.answers) phase)
phase_calls device tells old new kernel untold (Err error) same runs made retried (inl is) phase =
    let m = made is in
    let halts = m.halts m.no_other in
    subst (λ e. Phase tells new kernel (untold ++ news_of (Err e))) (sym is)
    (phase_faulted tells old new kernel runs untold (length old.numbers) halts.1 halts.0 m.same.last m.same.numbers m.same.images
    (λ t. m.blocks (subst IsTrue same t)) phase)
phase_calls device tells old new kernel untold (Err error) same runs made retried (inr is) phase =
    let r = retried is in
    subst (λ e. Phase tells new kernel (untold ++ news_of (Err e))) (sym is)
    (subst (Phase tells new kernel) (sym (append-nil untold))
    (phase_retried tells old new kernel runs untold r.next r.running r.same.last r.same.numbers r.same.images
    (λ t. r.blocks (subst IsTrue same t)) phase))

-- whatever is answered, batch and volume stay the same, and the device tells as before
step_same : {D : Type 0} (device : D → Device) (old new : JournalView D) (answered : Result Progress JournalError)
    → OnMade answered (MakesCall device old new answered) → OnRetried answered (IsRetried device old new)
    → IfErr answered (λ error. (error ≡ Fault) ⊎ (error ≡ Memory))
    → IsSameBatch old new × ((device new.disk).tells ≡ (device old.disk).tells)
step_same device old new (Ok progress) m retried errors = (m.same, m.time.tells)
step_same device old new (Err error) made retried (inl is) = ((made is).same, (made is).time.tells)
step_same device old new (Err error) made retried (inr is) = ((retried is).same, (retried is).refused.time.tells)

-- what a step leaves: a device that tells as before, and the tie
pub IsTied-steps : {D : Type 0} {write_grows sync_grows : Bool} (device : D → Device) (world : WorldView D) (new : JournalView D)
    (answered : Result Progress JournalError) → Steps device write_grows sync_grows world.journal answered new
    → IsTied (device world.journal.disk).tells world
    → IsTied (device new.disk).tells (record { journal = new; served = world.served; untold = world.untold ++ news_of answered })
IsTied-steps {D} {write_grows} {sync_grows} device world new answered s h = go world.journal.halted refl (idle_or_flies world.journal.next)
  where
    kernel : KernelView
    kernel = kernel_of world

    old : JournalView D
    old = world.journal

    Goal : Type 0
    Goal = IsTied (device new.disk).tells (record { journal = new; served = world.served; untold = world.untold ++ news_of answered })

    -- nothing was done, and there is no news
    nothing : new ≡ old → news_of answered ≡ [] → Goal
    nothing same none =
        subst (λ (t : JournalView D × List News). IsTied (device t.0.disk).tells
        (record { journal = t.0; served = world.served; untold = t.1 }))
        (λ i. (sym same i, (sym (append-nil world.untold) ∙ ap (λ xs. world.untold ++ xs) (sym none)) i)) h

    called : old.halted ≡ false → (old.next ≡ next.Idle → ⊥) → Goal
    called runs flies =
        let same = step_same device old new answered (s.call runs flies) (s.retried runs flies) (s.no_other runs) in
        subst (λ tells. IsTied tells (record { journal = new; served = world.served; untold = world.untold ++ news_of answered }))
        (sym same.1)
        (record {
          label = subst (λ l. IsLabel l (length kernel.blocks) kernel.inodes kernel.host) (sym same.0.label) h.label;
          size = same.0.size ∙ h.size;
          format = same.0.format ∙ h.format;
          phase = phase_calls device (device old.disk).tells old new kernel world.untold answered refl runs (s.call runs flies)
              (s.retried runs flies) (s.no_other runs) h.phase;
        })

    idles : old.halted ≡ false → old.next ≡ next.Idle → Goal
    idles runs is = let i = s.idle runs is in nothing i.1 (ap news_of i.0)

    go : (halted : Bool) → old.halted ≡ halted → (old.next ≡ next.Idle) ⊎ (old.next ≢ next.Idle) → Goal
    go true is at = let stays = s.halted is in nothing stays.1 (ap news_of stays.0)
    go false is (inl idle) = idles is idle
    go false is (inr flies) = called is flies

-- ---- Told

-- nothing is untold
pub IsTied-told_durable : {D : Type 0} (tells : Bool) (world : WorldView D) (last : ℕ) (later : List News)
    → world.untold ≡ IsDurable last ∷ later → IsTied tells world
    → ((kernel_of world).in_flight ≡ Some last) × ((kernel_of world).halted ≡ false)
    × IsTied tells (record {
      journal = world.journal;
      served = with_kernel world.served (made_durable (kernel_of world) last);
      untold = later;
    })
IsTied-told_durable {D} tells world last later is h = go h.phase
  where
    kernel : KernelView
    kernel = kernel_of world

    journal : JournalView D
    journal = world.journal

    Told : Type 0
    Told = (kernel.in_flight ≡ Some last) × (kernel.halted ≡ false)
        × IsTied tells (record { journal = world.journal; served = with_kernel world.served (made_durable kernel last); untold = later })

    no_fault : (halted other : Bool) → AreFaultsOrStopped halted other world.untold → Told
    no_fault false other f = absurd (let both : IsDurable last ∷ later ≡ [] = sym is ∙ f in cc)
    no_fault true false f = absurd (let both : IsDurable last ∷ later ≡ HasFailed ∷ [] = sym is ∙ f in cc)
    no_fault true true (inl f) = absurd (let both : IsDurable last ∷ later ≡ [] = sym is ∙ f in cc)
    no_fault true true (inr f) = absurd (let both : IsDurable last ∷ later ≡ HasFailed ∷ [] = sym is ∙ f in cc)

    go : Phase tells journal kernel world.untold → Told
    go (Quiet q) = no_fault journal.halted kernel.halted q.faults
    go (Flying n f) = no_fault journal.halted kernel.halted (or_stopped journal.halted kernel.halted world.untold f.faults)
    go (IsToBeTold n c) =
        let news : IsDurable n ∷ c.later ≡ IsDurable last ∷ later = sym c.told ∙ is in
        let same : n ≡ last = cc news in
        let rest : c.later ≡ later = cc news in
        let quiet : IsQuiet tells journal (made_durable kernel last) later =
        record {
          none = refl;
          past = c.past;
          blocks = λ t. let b : LieBehind kernel journal.blocks n = c.blocks t in
              record {
                agrees = record { size = b.agrees.size; clean = b.agrees.clean };
                holds = subst (λ p. Holds kernel.host kernel.inodes journal.blocks (take p kernel.spool)) same b.holds;
              };
          dirty = λ some. omega (arith, c.dirty some, same);
          faults = or_stopped journal.halted kernel.halted later
              (subst (λ (t : Bool × List News). AreFaults journal.halted t.0 t.1) (λ i. (sym c.running i, rest i)) c.faults);
          stopped = λ runs halted. absurd (true≢false (sym halted ∙ c.running));
        } in
        (c.flies ∙ ap Some same, c.running, record { label = h.label; size = h.size; format = h.format; phase = Quiet quiet })

pub IsTied-told_failed : {D : Type 0} (tells : Bool) (world : WorldView D) (later : List News) → world.untold ≡ HasFailed ∷ later
    → IsTied tells world
    → IsTied tells (record {
      journal = world.journal;
      served = with_kernel world.served (halted_for_good (kernel_of world));
      untold = later;
    })
IsTied-told_failed {D} tells world later is h = record { label = h.label; size = h.size; format = h.format; phase = go h.phase }
  where
    kernel : KernelView
    kernel = kernel_of world

    journal : JournalView D
    journal = world.journal

    -- the journal is halted, and nothing else is untold
    halts : (halted other : Bool) → AreFaultsOrStopped halted other world.untold → (halted ≡ true) × (later ≡ [])
    halts false other f = absurd (let both : HasFailed ∷ later ≡ [] = sym is ∙ f in cc)
    halts true false f = let none : HasFailed ∷ later ≡ HasFailed ∷ [] = sym is ∙ f in (refl, cc none)
    halts true true (inl f) = absurd (let both : HasFailed ∷ later ≡ [] = sym is ∙ f in cc)
    halts true true (inr f) = let none : HasFailed ∷ later ≡ HasFailed ∷ [] = sym is ∙ f in (refl, cc none)

    told : (journal.halted ≡ true) × (later ≡ []) → AreFaults journal.halted true later
    told h = subst (λ (t : Bool × List News). AreFaults t.0 true t.1) (λ i. (sym h.0 i, sym h.1 i)) refl

    lies : (blocks : List Octets) (p : ℕ) → LieBehind kernel blocks p → LieBehind (halted_for_good kernel) blocks p
    lies blocks p b = record { agrees = record { size = b.agrees.size; clean = b.agrees.clean }; holds = b.holds }

    go : Phase tells journal kernel world.untold → Phase tells journal (halted_for_good kernel) later
    go (Quiet q) = Quiet (record {
      none = q.none;
      past = q.past;
      blocks = λ t. lies journal.blocks kernel.durable (q.blocks t);
      dirty = q.dirty;
      faults = or_stopped journal.halted true later (told (halts journal.halted kernel.halted q.faults));
      stopped = λ runs. absurd (true≢false (sym (halts journal.halted kernel.halted q.faults).0 ∙ runs));
    })
    go (Flying last f) =
        Flying last (record {
          flies = f.flies;
          last_is = f.last_is;
          waits = f.waits;
          size = f.size;
          before = f.before;
          after = λ t. lies (with_batch journal) last (f.after t);
          more = f.more;
          dirty = f.dirty;
          faults = told (halts journal.halted kernel.halted (or_stopped journal.halted kernel.halted world.untold f.faults));
        })
    go (IsToBeTold last c) = absurd (let both : HasFailed ∷ later ≡ IsDurable last ∷ c.later = sym is ∙ c.told in cc)

-- ---- Stop

-- each accepted change is durable, so no batch is in flight
pub IsTied-stops : {D : Type 0} (tells : Bool) (world : WorldView D) → IsKept (kernel_of world)
    → (kernel_of world).durable ≡ length (kernel_of world).spool → IsTied tells world
    → IsTied tells (with_served world (with_kernel world.served (halted_for_good (kernel_of world))))
IsTied-stops {D} tells world kept clean h = record { label = h.label; size = h.size; format = h.format; phase = go h.phase }
  where
    kernel : KernelView
    kernel = kernel_of world

    halts : (journal_halted halted : Bool) → AreFaultsOrStopped journal_halted halted world.untold
        → AreFaultsOrStopped journal_halted true world.untold
    halts false halted f = f
    halts true false f = inr f
    halts true true f = f

    go : Phase tells world.journal kernel world.untold → Phase tells world.journal (halted_for_good kernel) world.untold
    go (Quiet q) = Quiet (record {
      none = q.none;
      past = q.past;
      blocks = λ t. let b : LieBehind kernel world.journal.blocks kernel.durable = q.blocks t in
          record { agrees = record { size = b.agrees.size; clean = b.agrees.clean }; holds = b.holds };
      dirty = q.dirty;
      faults = halts world.journal.halted kernel.halted q.faults;
      stopped = λ runs halted. clean;
    })
    go (Flying last f) = absurd (omega (arith, f.more, clean, (flying_last kernel last kept f.flies).1))
    go (IsToBeTold last c) = absurd (omega (arith, c.more, clean, (flying_last kernel last kept c.flies).1))
