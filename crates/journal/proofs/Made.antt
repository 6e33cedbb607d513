-- A call that was made, as those who use the journal see it.
use Rattle.std.proofs.Common.{◌≡◌, ◌≢◌, inl, ◌<◌, ◌≤◌, ℕ, ◌+◌, Bool, true, false, if◌then◌else◌, eqb, IsTrue, List, length, map, take}
use Rattle.std.proofs.Common.{refl, sym, ◌∙◌, ap}
use Rattle.std.proofs.Common.{subst, arith, Result, Ok, Err, IfErr}
use Rattle.disk.specs.Calls.{Call, Does}
use Rattle.disk.specs.Device.{Device, Elapses, HasCause, OnRefused}
use Rattle.disk.specs.Image.{part}
use Rattle.disk.specs.declared.DiskError.{DiskError}
use Rattle.disk.specs.declared.DiskError.TheVariants as disk_error
use Rattle.journal_segments.specs.Staged.{Staged, held_as}
use Rattle.journal.specs.Flight.{Flight, are_all, flight_in, sizes_of}
use Rattle.journal.specs.Inside.{IsKept, blocks_without, superblock_after}
use Rattle.journal.specs.Calls.{IsRetried, MakesCall, Written, blocks_after, call_at, call_of, epoch_after, written_in}
use Rattle.journal.specs.Journal.{IsSameBatch, JournalView, all_held, with_batch}
use Rattle.journal.specs.Order.{Carried, IsMore, answer, closings, at_fault, calls_made, following, is_sync, syncs_made, writes_made}
use Rattle.model.specs.Volume.{descriptor_of, epoch_in, format_in, laid_over, number_at, other_epoch}
use Rattle.journal.specs.declared.Progress.{Progress}
use Rattle.journal.specs.declared.Progress.TheVariants.{Working, Idle as Ended}
use Rattle.std.proofs.lemmas.Bool.{cond_both}
use Rattle.journal.specs.declared.JournalError.TheVariants.{Fault}
use Rattle.journal.specs.declared.Next.{Next}
use Rattle.journal.specs.declared.Next.TheVariants.{Idle, Descriptor, Image, Seal, OpenGate, Commit, Home, Settle, Close, Finish}
use Rattle.journal.proofs.Counting.{Asks, asks_by, syncs_on, writes_on}
use Rattle.journal.proofs.Order.{calls_bounded, one_more_call}
use Rattle.journal.proofs.Calls.{IsAfterIn, after_ok, after_err, blocks_then}
use Rattle.journal.proofs.Closing.{epoch_put}
use Rattle.journal.proofs.Flights.{length-all}
use Rattle.journal.proofs.Whole.{kept_refused}

-- one call, by what it is of
pub does_as : {X : Type 0} (write_grows sync_grows : Bool) (call : X → Call) (x y : X) (result : Result (Unit {0}) DiskError)
    (old new : Device) → x ≡ y → Does write_grows sync_grows (call x) result old new
    → Does write_grows sync_grows (call y) result old new
does_as write_grows sync_grows call x y result old new same did =
    subst (λ z. Does write_grows sync_grows (call z) result old new) same did

-- what is said of either call
pub record IsSaid (result : Result (Unit {0}) DiskError) (old new : Device) : Type 0 where
  pub time : Elapses old new
  pub cause : HasCause result old new
  pub refused : OnRefused result old new

said_of : (write_grows sync_grows : Bool) (call : Call) (result : Result (Unit {0}) DiskError) (old new : Device)
    → Does write_grows sync_grows call result old new → IsSaid result old new
said_of write_grows sync_grows (Call.Write at octets) result old new did =
    record { time = did.time; cause = did.cause; refused = did.refused }
said_of write_grows sync_grows Call.Sync result old new did = record { time = did.time; cause = did.cause; refused = did.refused }

-- the same call, with nothing said of memory
does_any : (write_grows sync_grows : Bool) (call : Call) (result : Result (Unit {0}) DiskError) (old new : Device)
    → Does write_grows sync_grows call result old new → Does true true call result old new
does_any write_grows sync_grows call result old new did = by_call call did
  where
    any : (r : Result (Unit {0}) DiskError) → IfErr r (λ error. error ≡ disk_error.Memory → IsTrue true)
    any (Ok x) = tt
    any (Err e) = λ is. refl

    by_call : (c : Call) → Does write_grows sync_grows c result old new → Does true true c result old new
    by_call (Call.Write at octets) did = record {
      content = did.content;
      crash = did.crash;
      since = did.since;
      time = did.time;
      call = did.call;
      cause = did.cause;
      refused = did.refused;
      memory = any result;
    }
    by_call Call.Sync did = record {
      durable = did.durable;
      content = did.content;
      crash = did.crash;
      since = did.since;
      time = did.time;
      call = did.call;
      cause = did.cause;
      refused = did.refused;
      memory = any result;
    }

-- the descriptor block matters to its own call alone
same_call : (next : Next) (w : Written) (descriptor : List ℕ) → (next ≡ Descriptor → w.descriptor ≡ descriptor)
    → call_at next w ≡ call_at next (record w { descriptor = descriptor })
same_call Idle w descriptor is = refl
same_call Descriptor w descriptor is = ap (λ (d : List ℕ). call_at Descriptor (record w { descriptor = d })) (is refl)
same_call (Image i) w descriptor is = refl
same_call Seal w descriptor is = refl
same_call OpenGate w descriptor is = refl
same_call Commit w descriptor is = refl
same_call (Home j i) w descriptor is = refl
same_call Settle w descriptor is = refl
same_call (Close j) w descriptor is = refl
same_call (Finish j) w descriptor is = refl

then_after : {D : Type 0} (journal : JournalView D) (last : ℕ) (carried : Carried) (next : Next)
    → blocks_then next journal.blocks (with_batch journal) ≡ blocks_after journal (answer last carried next)
then_after journal last carried Idle = refl
then_after journal last carried Descriptor = refl
then_after journal last carried (Image i) = refl
then_after journal last carried Seal = refl
then_after journal last carried OpenGate = refl
then_after journal last carried Commit = refl
then_after journal last carried (Home j i) = refl
then_after journal last carried Settle = refl
then_after journal last carried (Close j) = refl
then_after journal last carried (Finish j) =
    cond_both (eqb (j + 1) (closings carried)) Ended Working (λ p. journal.blocks ≡ blocks_after journal p) (λ e. refl) (λ e. refl)

-- the superblock after a good call has the same label and format, and the epoch that those who use the journal see
label_after : (all : Bool) (superblock : List ℕ) (next : Next) → 151 ≤ length superblock
    → part 20 128 (superblock_after all (epoch_in superblock) next superblock) ≡ part 20 128 superblock
label_after all superblock Idle fits = refl
label_after all superblock Descriptor fits = refl
label_after all superblock (Image i) fits = refl
label_after all superblock Seal fits = refl
label_after all superblock OpenGate fits = refl
label_after all superblock Commit fits = refl
label_after all superblock (Home j i) fits = refl
label_after all superblock Settle fits = refl
label_after true superblock (Close j) fits = (epoch_put superblock fits).label
label_after false superblock (Close j) fits = refl
label_after all superblock (Finish j) fits = refl

format_after : (all : Bool) (superblock : List ℕ) (next : Next) → 151 ≤ length superblock
    → format_in (superblock_after all (epoch_in superblock) next superblock) ≡ format_in superblock
format_after all superblock Idle fits = refl
format_after all superblock Descriptor fits = refl
format_after all superblock (Image i) fits = refl
format_after all superblock Seal fits = refl
format_after all superblock OpenGate fits = refl
format_after all superblock Commit fits = refl
format_after all superblock (Home j i) fits = refl
format_after all superblock Settle fits = refl
format_after true superblock (Close j) fits = (epoch_put superblock fits).format
format_after false superblock (Close j) fits = refl
format_after all superblock (Finish j) fits = refl

abbrev epoch_by : Bool → ℕ → Next → ℕ
epoch_by all epoch (Close j) = if all then other_epoch epoch else epoch
epoch_by all epoch next = epoch

epoch_then : (all : Bool) (superblock : List ℕ) (next : Next) → 151 ≤ length superblock
    → epoch_in (superblock_after all (epoch_in superblock) next superblock) ≡ epoch_by all (epoch_in superblock) next
epoch_then all superblock Idle fits = refl
epoch_then all superblock Descriptor fits = refl
epoch_then all superblock (Image i) fits = refl
epoch_then all superblock Seal fits = refl
epoch_then all superblock OpenGate fits = refl
epoch_then all superblock Commit fits = refl
epoch_then all superblock (Home j i) fits = refl
epoch_then all superblock Settle fits = refl
epoch_then true superblock (Close j) fits = (epoch_put superblock fits).epoch refl
epoch_then false superblock (Close j) fits = refl
epoch_then all superblock (Finish j) fits = refl

epoch_as : {D : Type 0} (journal : JournalView D) (all : Bool) → (eqb (length (all_held journal)) journal.segments) ≡ all → (next : Next)
    → epoch_by all journal.epoch next ≡ epoch_after journal next
epoch_as journal all is Idle = refl
epoch_as journal all is Descriptor = refl
epoch_as journal all is (Image i) = refl
epoch_as journal all is Seal = refl
epoch_as journal all is OpenGate = refl
epoch_as journal all is Commit = refl
epoch_as journal all is (Home j i) = refl
epoch_as journal all is Settle = refl
epoch_as journal all is (Close j) = ap (λ (b : Bool). if b then other_epoch journal.epoch else journal.epoch) (sym is)
epoch_as journal all is (Finish j) = refl

-- the superblock that the code leaves is that one
pub super_is : (superblock : List ℕ) (room : List Staged) (filled : ℕ) (is_last : Bool) (epoch : ℕ) (all : Bool) (super : List ℕ)
    (next : Next) → filled < length room → epoch ≡ epoch_in superblock → all ≡ eqb (filled + 1) (length room)
    → super ≡ superblock_after all epoch next superblock
    → super ≡ superblock_after (are_all (flight_in room filled is_last)) (epoch_in superblock) next superblock
super_is superblock room filled is_last epoch all super next there epoch_is all_is is =
    is ∙ ap (λ (e : ℕ). superblock_after all e next superblock) epoch_is
    ∙ ap (λ (b : Bool). superblock_after b (epoch_in superblock) next superblock)
    (all_is ∙ ap (λ (k : ℕ). eqb k (length room)) (sym (length-all room filled is_last there)))

module _ (D : Type 0) (device : D → Device) (write_grows sync_grows : Bool) (before later : D) (blocks : ℕ) (superblock : List ℕ)
    (room : List Staged) (filled : ℕ) (is_last : Bool) (law : IsTrue (device later).tells
    → (device later).may_leave (device later).content) (epoch : ℕ) (epoch_is : epoch ≡ epoch_in superblock) where
  abbrev f : Flight
  f = flight_in room filled is_last

  abbrev n : ℕ
  n = length f.batch.numbers

  abbrev m : ℕ
  m = f.batch.place

  abbrev last : ℕ
  last = number_at 8 8 f.batch.descriptor

  -- the journal over a device, with this superblock in memory
  abbrev over_in : List ℕ → D → Next → Bool → JournalView D
  over_in super d next halted = record {
    disk = d;
    label = part 20 128 super;
    format = format_in super;
    epoch = epoch_in super;
    size = blocks;
    segments = length room;
    blocks = blocks_without m next (device d).content;
    next = next;
    halted = halted;
    held = map held_as (take filled room);
    place = m;
    number = number_at 0 8 f.batch.descriptor;
    last = last;
    numbers = f.batch.numbers;
    images = f.batch.images;
    is_last = is_last;
  }

  abbrev over : D → Next → Bool → JournalView D
  over = over_in superblock

  -- the superblock after a good call
  abbrev super_after : Next → List ℕ
  super_after next = superblock_after (are_all f) (epoch_in superblock) next superblock

  abbrev Was : Next → Bool → Type 0
  Was next h = IsKept (device before) blocks superblock next h room filled is_last

  abbrev IsIn : List ℕ → Next → Bool → Type 0
  IsIn super next h = IsKept (device later) blocks super next h room filled is_last

  abbrev Is : Next → Bool → Type 0
  Is = IsIn superblock

  abbrev After : Elapses (device before) (device later) → List ℕ → Next → Bool → List (List ℕ) → Type 0
  After time super g h without = IsAfterIn (device before) (device later) blocks superblock room filled is_last time law super g h without

  running_was : (next : Next) (h : Bool) → h ≡ false → Was next h → Was next false
  running_was next h running was = subst (λ (b : Bool). Was next b) running was

  abbrev call_now : Next → Call
  call_now next = call_at next (written_in room filled epoch)

  abbrev Asked : (next : Next) → Result (Unit {0}) DiskError → Type 0
  Asked next result = Does write_grows sync_grows (call_now next) result (device before) (device later)

  -- with the epoch of the superblock
  in_memory : (next : Next) (result : Result (Unit {0}) DiskError) → Asked next result
      → Does write_grows sync_grows (call_at next (written_in room filled (epoch_in superblock))) result (device before) (device later)
  in_memory next result did = does_as write_grows sync_grows (λ (e : ℕ). call_at next (written_in room filled e)) epoch
      (epoch_in superblock) result (device before) (device later) epoch_is did

  said : (next : Next) (result : Result (Unit {0}) DiskError) → Asked next result → IsSaid result (device before) (device later)
  said next result did = said_of write_grows sync_grows (call_now next) result (device before) (device later) did

  after_good : (time : Elapses (device before) (device later)) (next g : Next) (h : Bool) (x : Unit {0}) → h ≡ false → next ≢ Idle
      → Was next h → g ≡ following n (sizes_of f) next → Asked next (Ok x)
      → After time (super_after next) g false (blocks_then next (blocks_without m next (device before).content)
      (laid_over (blocks_without m next (device before).content) f.batch.numbers f.batch.images))
  after_good time next g h x running flies was g_is did =
      subst (λ (k : Next). After time (super_after next) k false
      (blocks_then next (blocks_without m next (device before).content)
      (laid_over (blocks_without m next (device before).content) f.batch.numbers f.batch.images))) (sym g_is)
      (after_ok (device before) (device later) blocks superblock room filled is_last time law write_grows sync_grows x next flies
      (running_was next h running was) (in_memory next (Ok x) did))

  after_failed : (time : Elapses (device before) (device later)) (next g : Next) (h : Bool) (e : DiskError) → h ≡ false → next ≢ Idle
      → Was next h → g ≡ at_fault n (sizes_of f) next → Asked next (Err e)
      → After time superblock g true (blocks_without m next (device before).content)
  after_failed time next g h e running flies was g_is did =
      subst (λ (k : Next). After time superblock k true (blocks_without m next (device before).content)) (sym g_is)
      (after_err (device before) (device later) blocks superblock room filled is_last time law write_grows sync_grows e next flies
      (running_was next h running was) (in_memory next (Err e) did))

  pub kept_ok : (next g : Next) (h : Bool) (x : Unit {0}) → h ≡ false → next ≢ Idle → Was next h → g ≡ following n (sizes_of f) next
      → Asked next (Ok x) → (super : List ℕ) → super ≡ super_after next → IsIn super g false
  kept_ok next g h x running flies was g_is did super super_is =
      subst (λ (s : List ℕ). IsIn s g false) (sym super_is)
      (after_good (said next (Ok x) did).time next g h x running flies was g_is did).is_kept

  pub kept_err : (next g : Next) (h : Bool) (e : DiskError) → h ≡ false → next ≢ Idle → Was next h → g ≡ at_fault n (sizes_of f) next
      → Asked next (Err e) → Is g true
  kept_err next g h e running flies was g_is did =
      (after_failed (said next (Err e) did).time next g h e running flies was g_is did).is_kept

  same_batch : (super : List ℕ) (next g : Next) (h k : Bool) → part 20 128 super ≡ part 20 128 superblock
      → format_in super ≡ format_in superblock → IsSameBatch (over before next h) (over_in super later g k)
  same_batch super next g h k label format = record {
    label = label;
    format = format;
    size = refl;
    segments = refl;
    held = refl;
    place = refl;
    number = refl;
    last = refl;
    numbers = refl;
    images = refl;
    is_last = refl;
  }

  -- the call as the journal's callers know it
  call_is : (next : Next) (h : Bool) (result : Result (Unit {0}) DiskError) → Was next h → Asked next result
      → Does true true (call_of (over before next h)) result (device before) (device later)
  call_is next h result was did =
      subst (λ (call : Call). Does true true call result (device before) (device later))
      (same_call next (written_in room filled (epoch_in superblock))
      (descriptor_of (number_at 0 8 f.batch.descriptor) last f.batch.numbers) was.described)
      (does_any write_grows sync_grows (call_at next (written_in room filled (epoch_in superblock))) result (device before) (device later)
      (in_memory next result did))

  asked : {x : Unit {0}} (next : Next) → next ≢ Idle → Asked next (Ok x) → Asks (is_sync next) (device before) (device later)
  asked {x} next flies did = asks_by write_grows sync_grows next (written_in room filled epoch) x
      (device before) (device later) did flies

  made_in : (next g : Next) (h : Bool) (x : Unit {0}) (p : Progress) → h ≡ false → next ≢ Idle → Was next h
      → g ≡ following n (sizes_of f) next → p ≡ answer last (sizes_of f) next → Asked next (Ok x)
      → MakesCall device (over before next h) (over_in (super_after next) later g h) (Ok p)
  made_in next g h x p running flies was g_is p_is did =
      let time = (said next (Ok x) did).time in
      let after = after_good time next g h x running flies was g_is did in
      record {
        does = call_is next h (Ok x) was did;
        time = time;
        failures = record { ok = (said next (Ok x) did).cause.ok; fault = tt };
        same = same_batch (super_after next) next g h h (label_after (are_all f) superblock next (omega (arith, was.superblock_size)))
            (format_after (are_all f) superblock next (omega (arith, was.superblock_size)));
        epoch = epoch_then (are_all f) superblock next (omega (arith, was.superblock_size))
            ∙ epoch_as (over before next h) (are_all f) refl next;
        answers = p_is;
        next = (g_is, running);
        counts = (
          ap (λ (k : Next). calls_made n (sizes_of f) k) g_is ∙ one_more_call n (sizes_of f) next flies,
          calls_bounded n (sizes_of f) g after.is_kept.within,
        );
        writes = λ first more. subst (λ (k : Next). IsMore (writes_made n (sizes_of f) k) first (device later).writes) (sym g_is)
            (writes_on n (sizes_of f) next first (device before) (device later) flies (asked next flies did) more);
        syncs = λ first more. subst (λ (k : Next). IsMore (syncs_made (sizes_of f) k) first (device later).syncs) (sym g_is)
            (syncs_on n (sizes_of f) next first (device before) (device later) flies (asked next flies did) more);
        no_other = tt;
        halts = tt;
        blocks = λ t. after.is_without t ∙ then_after (over before next h) last (sizes_of f) next
            ∙ ap (λ (q : Progress). blocks_after (over before next h) q) (sym p_is);
        now = λ t c left. ((after.is_kept.told t).admits c left, after.is_kept.formats t c left);
        since = after.is_since;
      }

  pub made_ok : (next g : Next) (h : Bool) (x : Unit {0}) (p : Progress) → h ≡ false → next ≢ Idle → Was next h
      → g ≡ following n (sizes_of f) next → p ≡ answer last (sizes_of f) next → Asked next (Ok x)
      → (super : List ℕ) → super ≡ super_after next → MakesCall device (over before next h) (over_in super later g h) (Ok p)
  made_ok next g h x p running flies was g_is p_is did super super_is =
      subst (λ (s : List ℕ). MakesCall device (over before next h) (over_in s later g h) (Ok p)) (sym super_is)
      (made_in next g h x p running flies was g_is p_is did)

  pub made_err : (next g : Next) (h : Bool) (e : DiskError) → e ≡ disk_error.Fault → h ≡ false → next ≢ Idle → Was next h
      → g ≡ at_fault n (sizes_of f) next → Asked next (Err e) → MakesCall device (over before next h) (over later g true) (Err Fault)
  made_err next g h e is running flies was g_is did =
      let time = (said next (Err e) did).time in
      let after = after_failed time next g h e running flies was g_is did in
      record {
        does = subst (λ (d : DiskError). Does true true (call_of (over before next h)) (Err d) (device before) (device later)) is
            (call_is next h (Err e) was did);
        time = time;
        failures = record { ok = tt; fault = λ _. (said next (Err e) did).cause.fault is };
        same = same_batch superblock next g h true refl refl;
        epoch = tt;
        answers = tt;
        next = tt;
        counts = tt;
        writes = λ first more. tt;
        syncs = λ first more. tt;
        no_other = refl;
        halts = λ is. (refl, g_is);
        blocks = λ t. after.is_without t;
        now = λ t c left. ((after.is_kept.told t).admits c left, after.is_kept.formats t c left);
        since = after.is_since;
      }

  -- a call that was refused for want of memory
  pub retried_kept : (next : Next) (h : Bool) (e : DiskError) → e ≡ disk_error.Memory → Was next h → Asked next (Err e) → Is next h
  retried_kept next h e is was did =
      kept_refused (device before) blocks superblock next h room filled is_last was (device later) ((said next (Err e) did).refused is)

  pub retried : (next : Next) (h : Bool) (e : DiskError) → e ≡ disk_error.Memory → Was next h → Asked next (Err e)
      → IsRetried device (over before next h) (over later next h)
  retried next h e is was did =
      let refused = (said next (Err e) did).refused is in
      let kept = retried_kept next h e is was did in
      record {
        refused = refused;
        same = same_batch superblock next next h h refl refl;
        epoch = refl;
        next = refl;
        running = refl;
        blocks = λ t. ap (λ (x : List ℕ). blocks_without m next x) (refused.content t);
        now = λ t c left. ((kept.told t).admits c left, kept.formats t c left);
        since = λ t time c before left. inl (refused.since t time c before left);
      }
