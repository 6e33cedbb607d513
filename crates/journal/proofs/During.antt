-- Calls after the commit, one after the other.
use Rattle.std.proofs.Common.{◌≡◌, ◌≢◌, ◌⊎◌, inl, inr, ⊎_elim, ◌<◌, ◌≤◌, ℕ, ◌+◌, ◌-◌, ◌%◌, ◌^◌, if◌then◌else◌, Bool, true, false, eqb}
use Rattle.std.proofs.Common.{IsTrue, List, [], ◌∷◌, ◌++◌, length, refl, sym, ◌∙◌, ap, subst, arith, Result, Ok, Err, IfErr}
use Rattle.std.specs.List.{sum}
use Rattle.std.proofs.lemmas.Bool.{cond_both}
use Rattle.disk.specs.Device.{Device}
use Rattle.journal.specs.Flight.{carried_of, none_carried}
use Rattle.journal.specs.Inside.{IsVolume}
use Rattle.journal.specs.Calls.{IsRetried, MakesCall, OnMade, OnRetried, blocks_after, written_by}
use Rattle.journal.specs.Journal.{Admits, JournalView, IsCaused, IsDuring, IsSameBatch, LeavesAdmitted, calls, sizes, with_batch}
use Rattle.journal.specs.Opening.{IsMore}
use Rattle.journal.specs.Order.{Carried, closings, all_calls, answer, at_fault, calls_made, following, is_sync, syncs_made, writes_made}
use Rattle.model.specs.Volume.{StandsFor}
use Rattle.journal.specs.declared.Next.{Next}
use Rattle.journal.specs.declared.Next.TheVariants.{Idle, Descriptor, Image, Seal, OpenGate, Commit, Home, Settle, Close, Finish}
use Rattle.journal.specs.declared.Progress.{Progress}
use Rattle.journal.specs.declared.Progress.TheVariants.{Working, Idle as Ended}
use Rattle.journal.specs.declared.JournalError.{JournalError}
use Rattle.journal.specs.declared.JournalError.TheVariants.{Fault, Memory}
use Rattle.journal.proofs.Counting.{Asks, asks_by, one_count, same_count}
use Rattle.journal.proofs.Flights.{after_commit, after_gate, after_home}
use Rattle.journal.proofs.Order.{one_more_call, one_more_sync, one_more_write, syncs_where}
use Rattle.journal.proofs.Transitions.{only_left}

-- the calls after the commit
abbrev pub IsCheckpoint : Next → Type 0
IsCheckpoint (Home j i) = Unit {0}
IsCheckpoint Settle = Unit {0}
IsCheckpoint (Close j) = Unit {0}
IsCheckpoint (Finish j) = Unit {0}
IsCheckpoint next = ⊥

not_commit : (next : Next) → IsCheckpoint next → next ≢ Commit
not_commit Idle c = absurd c
not_commit Descriptor c = absurd c
not_commit (Image i) c = absurd c
not_commit Seal c = absurd c
not_commit OpenGate c = absurd c
not_commit Commit c = absurd c
not_commit (Home j i) c = λ e. cc
not_commit Settle c = λ e. cc
not_commit (Close j) c = λ e. cc
not_commit (Finish j) c = λ e. cc

following_not_commit : (n : ℕ) (carried : Carried) (next : Next) → IsCheckpoint next → following n carried next ≢ Commit
following_not_commit n carried Idle c = absurd c
following_not_commit n carried Descriptor c = absurd c
following_not_commit n carried (Image i) c = absurd c
following_not_commit n carried Seal c = absurd c
following_not_commit n carried OpenGate c = absurd c
following_not_commit n carried Commit c = absurd c
following_not_commit n carried (Home j i) c = after_home (λ g. g ≢ Commit) n carried j i (λ e d. λ f. cc) (λ e d. λ f. cc) (λ e. λ f. cc)
following_not_commit n carried Settle c = λ e. cc
following_not_commit n carried (Close j) c = λ e. cc
following_not_commit n carried (Finish j) c = after_gate (λ g. g ≢ Commit) n carried j (λ e. λ f. cc) (λ e. λ f. cc)

after_checkpoint : {D : Type 0} (journal : JournalView D) (last : ℕ) (carried : Carried) (next : Next) → IsCheckpoint next
    → blocks_after journal (answer last carried next) ≡ journal.blocks
after_checkpoint journal last carried Idle c = absurd c
after_checkpoint journal last carried Descriptor c = absurd c
after_checkpoint journal last carried (Image i) c = absurd c
after_checkpoint journal last carried Seal c = absurd c
after_checkpoint journal last carried OpenGate c = absurd c
after_checkpoint journal last carried Commit c = absurd c
after_checkpoint journal last carried (Home j i) c = refl
after_checkpoint journal last carried Settle c = refl
after_checkpoint journal last carried (Close j) c = refl
after_checkpoint journal last carried (Finish j) c =
    cond_both (eqb (j + 1) (closings carried)) Ended Working (λ p. blocks_after journal p ≡ journal.blocks) (λ e. refl) (λ e. refl)

-- each stays after the commit, also at a fault
following_checkpoint : (n : ℕ) (carried : Carried) (next : Next) → IsCheckpoint next
    → (following n carried next ≢ Commit) × (at_fault n carried next ≢ Commit)
following_checkpoint n carried Idle c = absurd c
following_checkpoint n carried Descriptor c = absurd c
following_checkpoint n carried (Image i) c = absurd c
following_checkpoint n carried Seal c = absurd c
following_checkpoint n carried OpenGate c = absurd c
following_checkpoint n carried Commit c = absurd c
following_checkpoint n carried (Home j i) c = (following_not_commit n carried (Home j i) c, following_not_commit n carried (Home j i) c)
following_checkpoint n carried Settle c = (λ e. cc, λ e. cc)
following_checkpoint n carried (Close j) c = (λ e. cc, λ e. cc)
following_checkpoint n carried (Finish j) c = (following_not_commit n carried (Finish j) c, λ e. cc)

-- where the loop of calls stands
abbrev pub IsLeft : Next → Type 0
IsLeft Idle = Unit {0}
IsLeft (Home j i) = Unit {0}
IsLeft Settle = Unit {0}
IsLeft (Close j) = Unit {0}
IsLeft (Finish j) = Unit {0}
IsLeft next = ⊥

left_checkpoint : (next : Next) → next ≢ Idle → IsLeft next → IsCheckpoint next
left_checkpoint Idle other l = absurd (other refl)
left_checkpoint Descriptor other l = absurd l
left_checkpoint (Image i) other l = absurd l
left_checkpoint Seal other l = absurd l
left_checkpoint OpenGate other l = absurd l
left_checkpoint Commit other l = absurd l
left_checkpoint (Home j i) other l = tt
left_checkpoint Settle other l = tt
left_checkpoint (Close j) other l = tt
left_checkpoint (Finish j) other l = tt

left_more : (n : ℕ) (carried : Carried) (next : Next) → IsLeft next → IsLeft (following n carried next)
left_more n carried Idle l = tt
left_more n carried Descriptor l = absurd l
left_more n carried (Image i) l = absurd l
left_more n carried Seal l = absurd l
left_more n carried OpenGate l = absurd l
left_more n carried Commit l = absurd l
left_more n carried (Home j i) l = after_home IsLeft n carried j i (λ e d. tt) (λ e d. tt) (λ e. tt)
left_more n carried Settle l = tt
left_more n carried (Close j) l = tt
left_more n carried (Finish j) l = after_gate IsLeft n carried j (λ e. tt) (λ e. tt)

fewer_left : (n : ℕ) (carried : Carried) (next : Next) → next ≢ Idle → calls_made n carried (following n carried next) ≤ all_calls n carried
    → all_calls n carried - calls_made n carried (following n carried next) < all_calls n carried - calls_made n carried next
fewer_left n carried next other bound = omega (arith, bound, one_more_call n carried next other)

next_not_commit : {D : Type 0} (device : D → Device) (old new : JournalView D) (result : Result Progress JournalError)
    → IsCheckpoint old.next → MakesCall device old new result → new.next ≢ Commit
next_not_commit device old new (Ok p) checkpoint call =
    subst (λ (n : Next). n ≢ Commit) (sym call.next.0) (following_checkpoint (length old.numbers) (sizes old) old.next checkpoint).0
next_not_commit device old new (Err e) checkpoint call =
    subst (λ (n : Next). n ≢ Commit) (sym (call.halts call.no_other).1)
    (following_checkpoint (length old.numbers) (sizes old) old.next checkpoint).1

-- the blocks after such a call
blocks_same : {D : Type 0} (device : D → Device) (old new : JournalView D) (result : Result Progress JournalError) → IsCheckpoint old.next
    → MakesCall device old new result → IsTrue (device old.disk).tells → new.blocks ≡ old.blocks
blocks_same device old new (Ok p) checkpoint call t = call.blocks t ∙ ap (λ (q : Progress). blocks_after old q) call.answers
    ∙ after_checkpoint old old.last (sizes old) old.next checkpoint
blocks_same device old new (Err e) checkpoint call t = call.blocks t

pub same_then : {D : Type 0} (a b c : JournalView D) → IsSameBatch a b → IsSameBatch b c → IsSameBatch a c
same_then a b c first second = record {
  label = second.label ∙ first.label;
  format = second.format ∙ first.format;
  size = second.size ∙ first.size;
  segments = second.segments ∙ first.segments;
  held = second.held ∙ first.held;
  place = second.place ∙ first.place;
  number = second.number ∙ first.number;
  last = second.last ∙ first.last;
  numbers = second.numbers ∙ first.numbers;
  images = second.images ∙ first.images;
  is_last = second.is_last ∙ first.is_last;
}

pub same_itself : {D : Type 0} (a : JournalView D) → IsSameBatch a a
same_itself a = record {
  label = refl;
  format = refl;
  size = refl;
  segments = refl;
  held = refl;
  place = refl;
  number = refl;
  last = refl;
  numbers = refl;
  images = refl;
  is_last = refl;
}

-- the same batch has the same images to be carried home
pub same_sizes : {D : Type 0} (old new : JournalView D) → IsSameBatch old new → sizes new ≡ sizes old
same_sizes old new same =
    λ i. if same.is_last i
    then carried_of (same.segments i) (same.held i ++ record {
      place = same.place i;
      batch = record { number = same.number i; last = same.last i; numbers = same.numbers i; images = same.images i };
    } ∷ [])
    else none_carried

pub during_then : {D : Type 0} (device : D → Device) (old mid new : JournalView D) (result : Result Progress JournalError)
    → IsDuring device old mid → IsCheckpoint mid.next → MakesCall device mid new result → IsDuring device old new
during_then device old mid new result so_far checkpoint call = record {
  tells = call.time.tells ∙ so_far.tells;
  size = call.time.size ∙ so_far.size;
  later = omega (arith, so_far.later, call.time.later);
  same = same_then old mid new so_far.same call.same;
  blocks = λ t. same_blocks t;
  since = λ t time c before left.
      ⊎_elim (λ earlier. so_far.since t time c before earlier) (λ now. inr (admitted t c now))
      (call.since (mid_tells t) time c (omega (arith, before, so_far.later)) left);
  now = λ t c left. admitted t c (call.now (subst (λ (b : Bool). IsTrue b) (sym call.time.tells) (mid_tells t)) c left);
}
  where
    mid_tells : IsTrue (device old.disk).tells → IsTrue (device mid.disk).tells
    mid_tells t = subst (λ (b : Bool). IsTrue b) (sym so_far.tells) t

    same_blocks : IsTrue (device old.disk).tells → new.blocks ≡ old.blocks
    same_blocks t = blocks_same device mid new result checkpoint call (mid_tells t) ∙ so_far.blocks t

    admitted : IsTrue (device old.disk).tells → (c : List ℕ) → Admits new c → IsVolume old.format old.label old.blocks c
    admitted t c left =
        let s = only_left new.next new.label new.blocks (with_batch new) c
        (next_not_commit device mid new result checkpoint call) left.0 in (
          subst (λ (bs : List (List ℕ)). StandsFor c old.label bs) (same_blocks t)
              (subst (λ (l : List ℕ). StandsFor c l new.blocks) (call.same.label ∙ so_far.same.label) s),
          omega (arith, left.1, call.same.format, so_far.same.format),
        )

-- before the first call
pub during_start : {D : Type 0} (device : D → Device) (old : JournalView D)
    → (IsTrue (device old.disk).tells → (c : List ℕ) → (device old.disk).may_leave c → IsVolume old.format old.label old.blocks c)
    → IsDuring device old old
during_start device old now = record {
  tells = refl;
  size = refl;
  later = omega arith;
  same = same_itself old;
  blocks = λ t. refl;
  since = λ t time c before left. inl left;
  now = now;
}

-- ---- how many calls were made

-- after the commit n + 2 writes and 2 syncs were made
enough_made : (n : ℕ) (carried : Carried) (next : Next) → IsCheckpoint next
    → (n + 2 ≤ writes_made n carried next) × (2 ≤ syncs_made carried next)
enough_made n carried Idle c = absurd c
enough_made n carried Descriptor c = absurd c
enough_made n carried (Image i) c = absurd c
enough_made n carried Seal c = absurd c
enough_made n carried OpenGate c = absurd c
enough_made n carried Commit c = absurd c
enough_made n carried (Home j i) c = (omega arith, omega arith)
enough_made n carried Settle c = (omega arith, omega arith)
enough_made n carried (Close j) c = (omega arith, omega arith)
enough_made n carried (Finish j) c = (omega arith, omega arith)

more_writes : (n : ℕ) (carried : Carried) (w : ℕ) (next : Next) (old now new : Device) → next ≢ Idle → IsCheckpoint next
    → Asks (is_sync next) now new → n + 2 + w ≡ writes_made n carried (following n carried next)
    → ((v : ℕ) → n + 2 + v ≡ writes_made n carried next → IsMore v old.writes now.writes) → IsMore w old.writes new.writes
more_writes n carried w next old now new flies checkpoint asks is so_far = go (is_sync next) asks (is ∙ one_more_write n carried next flies)
  where
    go : (b : Bool) → Asks b now new → n + 2 + w ≡ (if b then writes_made n carried next else writes_made n carried next + 1)
        → IsMore w old.writes new.writes
    go true asked is = same_count w old.writes now.writes new.writes (so_far w is) asked.writes
    go false asked is =
        let v = w - 1 in
        let enough = (enough_made n carried next checkpoint).0 in
        let before : n + 2 + v ≡ writes_made n carried next = omega (arith, is, enough) in
        let sum : v + 1 ≡ w = omega (arith, is, enough) in
        subst (λ (m : ℕ). IsMore m old.writes new.writes) sum (one_count v old.writes now.writes new.writes (so_far v before) asked.writes)

more_syncs : (n : ℕ) (carried : Carried) (s : ℕ) (next : Next) (old now new : Device) → next ≢ Idle → IsCheckpoint next
    → Asks (is_sync next) now new → 2 + s ≡ syncs_made carried (following n carried next)
    → ((r : ℕ) → 2 + r ≡ syncs_made carried next → IsMore r old.syncs now.syncs) → IsMore s old.syncs new.syncs
more_syncs n carried s next old now new flies checkpoint asks is so_far = go (is_sync next) asks (is ∙ one_more_sync n carried next flies)
  where
    go : (b : Bool) → Asks b now new → 2 + s ≡ (if b then syncs_made carried next + 1 else syncs_made carried next)
        → IsMore s old.syncs new.syncs
    go false asked is = same_count s old.syncs now.syncs new.syncs (so_far s is) asked.syncs
    go true asked is =
        let r = s - 1 in
        let enough = (enough_made n carried next checkpoint).1 in
        let before : 2 + r ≡ syncs_made carried next = omega (arith, is, enough) in
        let sum : r + 1 ≡ s = omega (arith, is, enough) in
        subst (λ (m : ℕ). IsMore m old.syncs new.syncs) sum (one_count r old.syncs now.syncs new.syncs (so_far r before) asked.syncs)

-- what stands between two calls of the loop
pub record IsOnTheWay {D : Type 0} (device : D → Device) (old now : JournalView D) : Type 0 where
  pub during : IsDuring device old now
  pub left : IsLeft now.next
  pub running : now.halted ≡ false
  pub failures : (device now.disk).failures ≡ (device old.disk).failures
  pub writes : (w : ℕ) → length now.numbers + 2 + w ≡ writes_made (length now.numbers) (sizes now) now.next
      → IsMore w (device old.disk).writes (device now.disk).writes
  pub syncs : (s : ℕ) → 2 + s ≡ syncs_made (sizes now) now.next → IsMore s (device old.disk).syncs (device now.disk).syncs

module _ {D : Type 0} (device : D → Device) (old now new : JournalView D) (so_far : IsOnTheWay device old now)
    (flies : now.next ≢ Idle) where
  checkpoint : IsCheckpoint now.next
  checkpoint = left_checkpoint now.next flies so_far.left

  pub stepped : (result : Result Progress JournalError) → MakesCall device now new result → IsDuring device old new
  stepped result call = during_then device old now new result so_far.during checkpoint call

  -- a call that was refused for want of memory
  retried_during : IsRetried device now new → IsDuring device old new
  retried_during retried = record {
    tells = retried.refused.time.tells ∙ so_far.during.tells;
    size = retried.refused.time.size ∙ so_far.during.size;
    later = omega (arith, so_far.during.later, retried.refused.time.later);
    same = same_then old now new so_far.during.same retried.same;
    blocks = λ t. retried.blocks (now_tells t) ∙ so_far.during.blocks t;
    since = λ t time c before left. so_far.during.since t time c before
        (retried.refused.since (now_tells t) time c (omega (arith, before, so_far.during.later)) left);
    now = λ t c left. so_far.during.now t c (retried.refused.crash (now_tells t) c left);
  }
    where
      now_tells : IsTrue (device old.disk).tells → IsTrue (device now.disk).tells
      now_tells t = subst (λ (b : Bool). IsTrue b) (sym so_far.during.tells) t

  -- whatever is answered
  pub stepped_on : (result : Result Progress JournalError) → OnMade result (MakesCall device now new result)
      → OnRetried result (IsRetried device now new) → IfErr result (λ error. (error ≡ Fault) ⊎ (error ≡ Memory)) → IsDuring device old new
  stepped_on (Ok p) made retried errors = stepped (Ok p) made
  stepped_on (Err error) made retried (inl is) = stepped (Err error) (made is)
  stepped_on (Err error) made retried (inr is) = retried_during (retried is)

  pub caused_by : (error : JournalError) → OnMade {T = Progress} (Err error) (MakesCall device now new (Err error))
      → OnRetried {T = Progress} (Err error) (IsRetried device now new) → (error ≡ Fault) ⊎ (error ≡ Memory)
      → IsCaused error (device old.disk) (device new.disk)
  caused_by error made retried (inl is) = inl (is, λ same. (made is).failures.fault is (same ∙ sym so_far.failures))
  caused_by error made retried (inr is) = inr (is, (retried is).refused.failures ∙ so_far.failures)

  same_left : (p : Progress) → MakesCall device now new (Ok p) → IsLeft new.next
  same_left p call = subst IsLeft (sym call.next.0) (left_more (length now.numbers) (sizes now) now.next so_far.left)

  -- one more write or one more sync
  counted : (p : Progress) → MakesCall device now new (Ok p)
      → ((w : ℕ) → length new.numbers + 2 + w ≡ writes_made (length new.numbers) (sizes new) new.next
      → IsMore w (device old.disk).writes (device new.disk).writes)
      × ((s : ℕ) → 2 + s ≡ syncs_made (sizes new) new.next → IsMore s (device old.disk).syncs (device new.disk).syncs)
  counted p call =
      let asks = asks_by true true now.next (written_by now) tt (device now.disk) (device new.disk) call.does flies in
      let n = length now.numbers in
      let size : length new.numbers ≡ n = ap length call.same.numbers in
      let same = same_sizes now new call.same in (
        λ w is.
            let w_is : n + 2 + w ≡ writes_made n (sizes now) (following n (sizes now) now.next) =
            subst (λ (g : Next). n + 2 + w ≡ writes_made n (sizes now) g) call.next.0
            (subst (λ (l : Carried). n + 2 + w ≡ writes_made n l new.next) same
            (subst (λ (k : ℕ). k + 2 + w ≡ writes_made k (sizes new) new.next) size is)) in
            more_writes n (sizes now) w now.next (device old.disk) (device now.disk)
            (device new.disk) flies checkpoint asks w_is so_far.writes,
        λ s is.
            let s_is : 2 + s ≡ syncs_made (sizes now) (following n (sizes now) now.next) =
            subst (λ (g : Next). 2 + s ≡ syncs_made (sizes now) g) call.next.0
            (subst (λ (l : Carried). 2 + s ≡ syncs_made l new.next) same is) in
            more_syncs n (sizes now) s now.next (device old.disk) (device now.disk)
            (device new.disk) flies checkpoint asks s_is so_far.syncs,
      )

  pub on_the_way : (p : Progress) → MakesCall device now new (Ok p) → IsOnTheWay device old new
  on_the_way p call = record {
    during = stepped (Ok p) call;
    left = same_left p call;
    running = call.next.1;
    failures = call.failures.ok ∙ so_far.failures;
    writes = λ w is. (counted p call).0 w is;
    syncs = λ s is. (counted p call).1 s is;
  }

  pub fewer : (p : Progress) → MakesCall device now new (Ok p)
      → all_calls (length new.numbers) (sizes new) - calls new < all_calls (length now.numbers) (sizes now) - calls now
  fewer p call =
      let size : length new.numbers ≡ length now.numbers = ap length call.same.numbers in
      let all : all_calls (length new.numbers) (sizes new) ≡ all_calls (length now.numbers) (sizes now) =
      ap (λ (k : ℕ). all_calls k (sizes new)) size ∙ ap (all_calls (length now.numbers)) (same_sizes now new call.same) in
      omega (arith, all, call.counts.0, call.counts.1)

-- before the first call of the loop, where n + 2 writes and 2 syncs were made
pub at_start : {D : Type 0} (device : D → Device) (journal : JournalView D) → IsLeft journal.next → journal.next ≢ Commit
    → writes_made (length journal.numbers) (sizes journal) journal.next ≡ length journal.numbers + 2
    → syncs_made (sizes journal) journal.next ≡ 2
    → journal.halted ≡ false → LeavesAdmitted device journal → IsOnTheWay device journal journal
at_start device journal left other writes syncs running now = record {
  during = during_start device journal (λ t c still. let admits = now t c still in
      (only_left journal.next journal.label journal.blocks (with_batch journal) c other admits.0, admits.1));
  left = left;
  running = running;
  failures = refl;
  writes = λ w made. ap (λ (m : ℕ). m % 2 ^ 64) (let none : w ≡ 0 = omega (arith, made, writes) in omega (arith, none));
  syncs = λ s made. ap (λ (m : ℕ). m % 2 ^ 64) (let none : s ≡ 0 = omega (arith, made, syncs) in omega (arith, none));
}

-- as after the commit
pub after_the_commit : {D : Type 0} (device : D → Device) (journal : JournalView D)
    → journal.next ≡ following (length journal.numbers) (sizes journal) Commit → journal.halted ≡ false → LeavesAdmitted device journal
    → IsOnTheWay device journal journal
after_the_commit device journal is running now =
    let n = length journal.numbers in
    let all = sizes journal in
    at_start device journal
    (subst IsLeft (sym is) (after_commit IsLeft n all (λ e. tt) (λ e. tt)))
    (subst (λ (g : Next). g ≢ Commit) (sym is) (after_commit (λ g. g ≢ Commit) n all (λ e. λ f. cc) (λ e. λ f. cc)))
    (ap (writes_made n all) is ∙ one_more_write n all Commit (λ f. cc))
    (ap (syncs_made all) is ∙ one_more_sync n all Commit (λ f. cc))
    running now

-- and from the first home write on
pub at_first_home : {D : Type 0} (device : D → Device) (journal : JournalView D) → journal.next ≡ Home 0 0 → journal.halted ≡ false
    → LeavesAdmitted device journal → IsOnTheWay device journal journal
at_first_home device journal is running now =
    let n = length journal.numbers in
    let all = sizes journal in
    at_start device journal (subst IsLeft (sym is) tt) (subst (λ (g : Next). g ≢ Commit) (sym is) (λ f. cc)) (ap (writes_made n all) is
    ∙ omega arith) (ap (syncs_made all) is) running now

-- and after the last
pub all_made : {D : Type 0} (device : D → Device) (old now : JournalView D) → IsOnTheWay device old now → 0 < length (sizes old).counts
    → now.next ≡ Idle
    → IsMore (sum (sizes old).counts + closings (sizes old)) (device old.disk).writes (device now.disk).writes
    × IsMore (1 + closings (sizes old)) (device old.disk).syncs (device now.disk).syncs
all_made device old now way some is =
    let same = same_sizes old now way.during.same in
    let n = length now.numbers in
    let closes : closings (sizes now) ≡ closings (sizes old) = ap closings same in
    let counts : sum (sizes now).counts ≡ sum (sizes old).counts = ap (λ (c : Carried). sum c.counts) same in
    let many : length (sizes now).counts ≡ length (sizes old).counts = ap (λ (c : Carried). length c.counts) same in (
      way.writes (sum (sizes old).counts + closings (sizes old)) (omega (arith, ap (writes_made n (sizes now)) is, counts, closes)),
      way.syncs (1 + closings (sizes old))
          (omega (arith, ap (syncs_made (sizes now)) is, closes, syncs_where (sizes now) (omega (arith, some, many)))),
    )
