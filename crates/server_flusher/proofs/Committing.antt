-- The calls of a batch up to the one that commits it.
use Rattle.std.proofs.Common.{◌≡◌, ◌≢◌, ◌≤◌, ◌<◌, ◌+◌, ◌⊎◌, ℕ, Bool, true, false, IsTrue, List, length, inl, inr, Result, Ok, Err, IfErr}
use Rattle.std.proofs.Common.{refl, sym, ◌∙◌, ap, subst, arith, ◌↔◌}
use Rattle.std.proofs.lemmas.Bool.{false≢true}
use Rattle.disk.specs.Device.{Device}
use Rattle.journal.specs.Calls.{IsRetried, MakesCall, OnMade, OnRetried, blocks_after}
use Rattle.journal.specs.Journal.{IsReady, JournalView, LeavesAdmitted, sizes, with_batch}
use Rattle.journal.specs.Opening.{IsMore}
use Rattle.journal.specs.Order.{Carried, answer, following, syncs_made, writes_made}
use Rattle.journal.specs.declared.Next.{Next}
use Rattle.journal.specs.declared.Next.TheVariants.{Idle, Descriptor, Image, Seal, OpenGate, Commit, Home, Settle, Close, Finish}
use Rattle.journal.specs.declared.Progress.{Progress}
use Rattle.journal.specs.declared.Progress.TheVariants.{Committed}
use Rattle.journal.specs.declared.JournalError.{JournalError}
use Rattle.journal.proofs.Flights.{after_image}
use Rattle.journal.proofs.During.{IsLeft, IsOnTheWay, on_the_way, same_sizes, stepped_on}
use Rattle.journal.specs.declared.JournalError.TheVariants.{Fault, Halted, Memory, NotAVolume}
use Rattle.model.specs.Volume.{laid_over}
use Rattle.server_flusher.specs.Flush.{Commits, HasBegun, has_failed}

-- the calls up to the commit, in a batch of n images
abbrev pub IsBody : ℕ → Next → Type 0
IsBody n Descriptor = Unit {0}
IsBody n (Image i) = i < n
IsBody n Seal = Unit {0}
IsBody n OpenGate = Unit {0}
IsBody n Commit = Unit {0}
IsBody n next = ⊥

body_flies : (n : ℕ) (next : Next) → IsBody n next → next ≢ Idle
body_flies n Idle b = absurd b
body_flies n Descriptor b = λ e. cc
body_flies n (Image i) b = λ e. cc
body_flies n Seal b = λ e. cc
body_flies n OpenGate b = λ e. cc
body_flies n Commit b = λ e. cc
body_flies n (Home j i) b = absurd b
body_flies n Settle b = absurd b
body_flies n (Close j) b = absurd b
body_flies n (Finish j) b = absurd b

-- only the commit answers that the batch is committed
committed_at : (n last k : ℕ) (carried : Carried) (next : Next) → IsBody n next → answer last carried next ≡ Committed k → next ≡ Commit
committed_at n last k carried Idle b e = absurd b
committed_at n last k carried Descriptor b e = absurd (cc)
committed_at n last k carried (Image i) b e = absurd (cc)
committed_at n last k carried Seal b e = absurd (cc)
committed_at n last k carried OpenGate b e = absurd (cc)
committed_at n last k carried Commit b e = refl
committed_at n last k carried (Home j i) b e = absurd b
committed_at n last k carried Settle b e = absurd b
committed_at n last k carried (Close j) b e = absurd b
committed_at n last k carried (Finish j) b e = absurd b

-- each other one is followed by one of them, and leaves the blocks
body_more : (n last : ℕ) (carried : Carried) (next : Next) → 1 ≤ n → IsBody n next → answer last carried next ≢ Committed last
    → IsBody n (following n carried next)
body_more n last carried Idle some b other = absurd b
body_more n last carried Descriptor some b other = omega arith
body_more n last carried (Image i) some b other = after_image (IsBody n) n carried i (λ e. tt) (λ e. omega (arith, b, e))
body_more n last carried Seal some b other = tt
body_more n last carried OpenGate some b other = tt
body_more n last carried Commit some b other = absurd (other refl)
body_more n last carried (Home j i) some b other = absurd b
body_more n last carried Settle some b other = absurd b
body_more n last carried (Close j) some b other = absurd b
body_more n last carried (Finish j) some b other = absurd b

working : {D : Type 0} (journal : JournalView D) (n last : ℕ) (carried : Carried) (next : Next) → IsBody n next
    → answer last carried next ≢ Committed last → blocks_after journal (answer last carried next) ≡ journal.blocks
working journal n last carried Idle b other = absurd b
working journal n last carried Descriptor b other = refl
working journal n last carried (Image i) b other = refl
working journal n last carried Seal b other = refl
working journal n last carried OpenGate b other = refl
working journal n last carried Commit b other = absurd (other refl)
working journal n last carried (Home j i) b other = absurd b
working journal n last carried Settle b other = absurd b
working journal n last carried (Close j) b other = absurd b
working journal n last carried (Finish j) b other = absurd b

-- what stands between two calls of the loop
pub record IsBefore {D : Type 0} (device : D → Device) (old now : JournalView D) : Type 0 where
  pub running : now.halted ≡ false
  pub body : IsBody (length now.numbers) now.next
  pub some : 1 ≤ length now.numbers
  pub tells : (device now.disk).tells ≡ (device old.disk).tells
  pub label : now.label ≡ old.label
  pub last : now.last ≡ old.last
  pub numbers : now.numbers ≡ old.numbers
  pub images : now.images ≡ old.images
  pub blocks : IsTrue (device old.disk).tells → now.blocks ≡ old.blocks
  pub failures : (device now.disk).failures ≡ (device old.disk).failures

pub at_start : {D : Type 0} (device : D → Device) (journal : JournalView D) → HasBegun device journal → IsBefore device journal journal
at_start device journal begun = record {
  running = begun.running;
  body = subst (λ (n : Next). IsBody (length journal.numbers) n) (sym begun.next) tt;
  some = begun.some;
  tells = refl;
  label = refl;
  last = refl;
  numbers = refl;
  images = refl;
  blocks = λ t. refl;
  failures = refl;
}

module _ {D : Type 0} (device : D → Device) (old now new : JournalView D) (so_far : IsBefore device old now) where
  pub flies : now.next ≢ Idle
  flies = body_flies (length now.numbers) now.next so_far.body

  tells_now : IsTrue (device old.disk).tells → IsTrue (device now.disk).tells
  tells_now t = subst (λ (b : Bool). IsTrue b) (sym so_far.tells) t

  -- a call that did not commit
  pub goes_on : (p : Progress) → ((k : ℕ) → p ≢ Committed k) → MakesCall device now new (Ok p) → IsBefore device old new
  goes_on p other call =
      let not_yet : answer now.last (sizes now) now.next ≢ Committed now.last = λ e. other now.last (call.answers ∙ e) in
      record {
        running = call.next.1;
        body = subst (λ (n : Next). IsBody (length new.numbers) n) (sym call.next.0)
            (subst (λ (ns : List ℕ). IsBody (length ns) (following (length now.numbers) (sizes now) now.next)) (sym call.same.numbers)
            (body_more (length now.numbers) now.last (sizes now) now.next so_far.some so_far.body not_yet));
        some = subst (λ (ns : List ℕ). 1 ≤ length ns) (sym call.same.numbers) so_far.some;
        tells = call.time.tells ∙ so_far.tells;
        label = call.same.label ∙ so_far.label;
        last = call.same.last ∙ so_far.last;
        numbers = call.same.numbers ∙ so_far.numbers;
        images = call.same.images ∙ so_far.images;
        blocks = λ t.
            (call.blocks (tells_now t) ∙ ap (λ (q : Progress). blocks_after now q) call.answers
            ∙ working now (length now.numbers) now.last (sizes now) now.next so_far.body not_yet)
            ∙ so_far.blocks t;
        failures = call.failures.ok ∙ so_far.failures;
      }

  -- a call that was refused for want of memory
  pub asks_again : IsRetried device now new → IsBefore device old new
  asks_again call = record {
    running = call.running ∙ so_far.running;
    body = subst (λ (n : Next). IsBody (length new.numbers) n) (sym call.next)
        (subst (λ (ns : List ℕ). IsBody (length ns) now.next) (sym call.same.numbers) so_far.body);
    some = subst (λ (ns : List ℕ). 1 ≤ length ns) (sym call.same.numbers) so_far.some;
    tells = call.refused.time.tells ∙ so_far.tells;
    label = call.same.label ∙ so_far.label;
    last = call.same.last ∙ so_far.last;
    numbers = call.same.numbers ∙ so_far.numbers;
    images = call.same.images ∙ so_far.images;
    blocks = λ t. call.blocks (tells_now t) ∙ so_far.blocks t;
    failures = call.refused.failures ∙ so_far.failures;
  }

  -- the call that did
  pub commits : (k : ℕ) → MakesCall device now new (Ok (Committed k)) → LeavesAdmitted device new → Commits device old new
  commits k call left =
      let here : now.next ≡ Commit = committed_at (length now.numbers) now.last k (sizes now) now.next so_far.body (sym call.answers) in
      record {
        tells = call.time.tells ∙ so_far.tells;
        running = call.next.1;
        next = call.next.0 ∙ ap (λ (n : Next). following (length now.numbers) (sizes now) n) here
            ∙ sym (λ i. following (length (call.same.numbers i)) (same_sizes now new call.same i) Commit);
        label = call.same.label ∙ so_far.label;
        last = call.same.last ∙ so_far.last;
        numbers = call.same.numbers ∙ so_far.numbers;
        images = call.same.images ∙ so_far.images;
        blocks = λ t. call.blocks (tells_now t) ∙ laid t;
        failures = call.failures.ok ∙ so_far.failures;
        now = left;
      }
    where
      laid : IsTrue (device old.disk).tells → with_batch now ≡ with_batch old
      laid t = ap (λ (bs : List (List ℕ)). laid_over bs now.numbers now.images) (so_far.blocks t)
          ∙ (ap (λ (ns : List ℕ). laid_over old.blocks ns now.images) so_far.numbers
          ∙ ap (λ (xs : List (List ℕ)). laid_over old.blocks old.numbers xs) so_far.images)

  pub failed : MakesCall device now new (Err Fault) → (device new.disk).failures ≢ (device old.disk).failures
  failed call = λ same. call.failures.fault refl (same ∙ sym so_far.failures)

-- a journal that runs and isn't ready for a batch has a call to make
pub has_call : {D : Type 0} (journal : JournalView D) (ready : Bool) → (IsTrue ready ↔ IsReady journal) → ready ≡ false
    → journal.halted ≡ false → journal.next ≢ Idle
has_call journal ready exactly is running =
    λ idle. false≢true (subst (λ (b : Bool). IsTrue b) is (exactly.1 (running, idle)))

-- a call behind the commit that was refused for want of memory
pub settles_again : {D : Type 0} (device : D → Device) (old now new : JournalView D) (so_far : IsOnTheWay device old now)
    → (moves : now.next ≢ Idle) → IsRetried device now new → IsOnTheWay device old new
settles_again device old now new so_far moves call = record {
  during = stepped_on device old now new so_far moves (Err Memory) (λ is. absurd (cc)) (λ is. call) (inr refl);
  left = subst IsLeft (sym call.next) so_far.left;
  running = call.running ∙ so_far.running;
  failures = call.refused.failures ∙ so_far.failures;
  writes = λ w is. subst (λ (k : ℕ). IsMore w (device old.disk).writes k) (sym call.refused.writes)
      (so_far.writes w
      (subst (λ (k : ℕ). k + 2 + w ≡ writes_made k (sizes now) now.next) (ap length call.same.numbers)
      (subst (λ (l : Carried). length new.numbers + 2 + w ≡ writes_made (length new.numbers) l now.next) (same_sizes now new call.same)
      (is ∙ ap (λ (n : Next). writes_made (length new.numbers) (sizes new) n) call.next))));
  syncs = λ s is. subst (λ (k : ℕ). IsMore s (device old.disk).syncs k) (sym call.refused.syncs)
      (so_far.syncs s
      (subst (λ (l : Carried). 2 + s ≡ syncs_made l now.next) (same_sizes now new call.same)
      (is ∙ ap (λ (n : Next). syncs_made (sizes new) n) call.next)));
}

-- one that did not fail
pub settles_on : {D : Type 0} (device : D → Device) (old now new : JournalView D) (so_far : IsOnTheWay device old now)
    → (moves : now.next ≢ Idle) (result : Result Progress JournalError) → has_failed result ≡ false
    → OnMade result (MakesCall device now new result) → OnRetried result (IsRetried device now new) → IsOnTheWay device old new
settles_on device old now new so_far moves (Ok p) good made retried = on_the_way device old now new so_far moves p made
settles_on device old now new so_far moves (Err Memory) good made retried = settles_again device old now new so_far moves (retried refl)
settles_on device old now new so_far moves (Err Fault) good made retried = absurd (cc)
settles_on device old now new so_far moves (Err NotAVolume) good made retried = absurd (cc)
settles_on device old now new so_far moves (Err Halted) good made retried = absurd (cc)

-- and one that did
pub settling_failed : {D : Type 0} (device : D → Device) (old now new : JournalView D) (so_far : IsOnTheWay device old now)
    → (result : Result Progress JournalError) → has_failed result ≡ true
    → OnMade result (MakesCall device now new result) → IfErr result (λ error. (error ≡ Fault) ⊎ (error ≡ Memory))
    → (device new.disk).failures ≢ (device old.disk).failures
settling_failed device old now new so_far (Ok p) bad made errors = absurd (cc)
settling_failed device old now new so_far (Err Memory) bad made errors = absurd (cc)
settling_failed device old now new so_far (Err Fault) bad made errors = λ same. (made refl).failures.fault refl (same ∙ sym so_far.failures)
settling_failed device old now new so_far (Err NotAVolume) bad made (inl e) = absurd (cc)
settling_failed device old now new so_far (Err NotAVolume) bad made (inr e) = absurd (cc)
settling_failed device old now new so_far (Err Halted) bad made (inl e) = absurd (cc)
settling_failed device old now new so_far (Err Halted) bad made (inr e) = absurd (cc)
