-- The calls of a batch, from the first to the last.
use Rattle.std.proofs.Common.{◌≡◌, ◌≢◌, ◌⊎◌, inl, inr, ◌<◌, ◌+◌, ◌-◌, ℕ, Bool, true, false, eqb, if◌then◌else◌, IsTrue, List}
use Rattle.std.proofs.Common.{length, refl, sym, ◌∙◌, ap, subst, arith, Ok, Err}
use Rattle.std.proofs.lemmas.Bool.{cond_both}
use Rattle.disk.specs.Calls.{Call, Does, Syncs}
use Rattle.disk.specs.Calls.Call.{Sync}
use Rattle.disk.specs.Device.{Device, Elapses, LeavesOnly}
use Rattle.disk.proofs.Devices.{elapses_then}
use Rattle.journal.specs.Calls.{IsRetried, MakesCall, OnMade, OnRetried, Written, blocks_after, call_at, call_of, written_by}
use Rattle.journal.specs.Journal.{IsCaused, IsSameBatch, JournalView, calls, sizes, with_batch}
use Rattle.journal.specs.Order.{Carried, all_calls, answer, closings, following, is_sync, is_to_commit}
use Rattle.journal.specs.declared.Next.{Next}
use Rattle.journal.specs.declared.Next.TheVariants.{Idle, Descriptor, Image, Seal, OpenGate, Commit, Home, Settle, Close, Finish}
use Rattle.journal.specs.declared.Progress.{Progress}
use Rattle.journal.specs.declared.Progress.TheVariants.{Working, Idle as Ended}
use Rattle.journal.specs.declared.JournalError.{JournalError}
use Rattle.journal.specs.declared.JournalError.TheVariants.{Fault, Memory}
use Rattle.journal.proofs.During.{same_itself, same_sizes, same_then}
use Rattle.journal.proofs.Flights.{after_commit, after_gate, after_home, after_image}
use Rattle.model.specs.Volume.{laid_over}

no_time : (a : Device) → Elapses a a
no_time a = record { size = refl; tells = refl; later = omega arith }

-- ---- each call

-- the last call is a sync
ends : (n : ℕ) (carried : Carried) (next : Next) → next ≢ Idle → following n carried next ≡ Idle → is_sync next ≡ true
ends n carried Idle other e = absurd (other refl)
ends n carried Descriptor other e = absurd (cc)
ends n carried (Image i) other e = absurd (after_image (λ g. g ≢ Idle) n carried i (λ d. λ f. cc) (λ d. λ f. cc) e)
ends n carried Seal other e = refl
ends n carried OpenGate other e = absurd (cc)
ends n carried Commit other e = refl
ends n carried (Home j i) other e = absurd (after_home (λ g. g ≢ Idle) n carried j i (λ c d. λ f. cc) (λ c d. λ f. cc) (λ d. λ f. cc) e)
ends n carried Settle other e = refl
ends n carried (Close j) other e = absurd (cc)
ends n carried (Finish j) other e = refl

sync_of : (next : Next) (w : Written) → is_sync next ≡ true → call_at next w ≡ Sync
sync_of Idle w e = absurd (cc)
sync_of Descriptor w e = absurd (cc)
sync_of (Image i) w e = absurd (cc)
sync_of Seal w e = refl
sync_of OpenGate w e = absurd (cc)
sync_of Commit w e = refl
sync_of (Home j i) w e = absurd (cc)
sync_of Settle w e = refl
sync_of (Close j) w e = absurd (cc)
sync_of (Finish j) w e = refl

-- the blocks are those with the batch from its commit on
moved : {D : Type 0} (now : JournalView D) (n last : ℕ) (carried : Carried) (before after : List (List ℕ)) (next : Next) → next ≢ Idle
    → now.blocks ≡ (if is_to_commit next then before else after) → (now.blocks ≡ before → with_batch now ≡ after)
    → blocks_after now (answer last carried next) ≡ (if is_to_commit (following n carried next) then before else after)
moved now n last carried before after Idle other is lays = absurd (other refl)
moved now n last carried before after Descriptor other is lays = is
moved now n last carried before after (Image i) other is lays =
    after_image (λ g. now.blocks ≡ (if is_to_commit g then before else after)) n carried i (λ e. is) (λ e. is)
moved now n last carried before after Seal other is lays = is
moved now n last carried before after OpenGate other is lays = is
moved now n last carried before after Commit other is lays =
    after_commit (λ g. with_batch now ≡ (if is_to_commit g then before else after)) n carried (λ e. lays is) (λ e. lays is)
moved now n last carried before after (Home j i) other is lays =
    after_home (λ g. now.blocks ≡ (if is_to_commit g then before else after)) n carried j i (λ e d. is) (λ e d. is) (λ e. is)
moved now n last carried before after Settle other is lays = is
moved now n last carried before after (Close j) other is lays = is
moved now n last carried before after (Finish j) other is lays =
    let stays = after_gate (λ g. now.blocks ≡ (if is_to_commit g then before else after)) n carried j (λ e. is) (λ e. is) in
    cond_both (eqb (j + 1) (closings carried)) Ended Working
    (λ p. blocks_after now p ≡ (if is_to_commit (following n carried (Finish j)) then before else after)) (λ e. stays) (λ e. stays)

-- ---- between two calls

pub record IsOnTheWay {D : Type 0} (device : D → Device) (old now : JournalView D) : Type 0 where
  pub running : now.halted ≡ false
  pub same : IsSameBatch old now
  pub time : Elapses (device old.disk) (device now.disk)
  pub failures : (device now.disk).failures ≡ (device old.disk).failures
  pub blocks : IsTrue (device old.disk).tells → now.blocks ≡ (if is_to_commit now.next then old.blocks else with_batch old)
  pub synced : IsTrue (device old.disk).tells → now.next ≡ Idle → LeavesOnly (device now.disk) (device now.disk).content

pub begun : {D : Type 0} (device : D → Device) (journal : JournalView D) → journal.halted ≡ false → journal.next ≡ Descriptor
    → IsOnTheWay device journal journal
begun device journal running next = record {
  running = running;
  same = same_itself journal;
  time = no_time (device journal.disk);
  failures = refl;
  blocks = λ t. subst (λ (g : Next). journal.blocks ≡ (if is_to_commit g then journal.blocks else with_batch journal)) (sym next) refl;
  synced = λ t is. absurd (let both : Descriptor ≡ Idle = sym next ∙ is in cc);
}

-- the same batch over the same blocks
pub same_batch : {D : Type 0} (old now : JournalView D) → IsSameBatch old now → now.blocks ≡ old.blocks → with_batch now ≡ with_batch old
same_batch old now same blocks = λ i. laid_over (blocks i) (same.numbers i) (same.images i)

module _ {D : Type 0} (device : D → Device) (old now new : JournalView D) (so_far : IsOnTheWay device old now)
    (flies : now.next ≢ Idle) where
  tells : IsTrue (device old.disk).tells → IsTrue (device now.disk).tells
  tells t = subst (λ (b : Bool). IsTrue b) (sym so_far.time.tells) t

  synced_by : (p : Progress) → MakesCall device now new (Ok p) → IsTrue (device old.disk).tells → new.next ≡ Idle
      → LeavesOnly (device new.disk) (device new.disk).content
  synced_by p call t is =
      let last : is_sync now.next ≡ true = ends (length now.numbers) (sizes now) now.next flies (sym call.next.0 ∙ is) in
      let sync : call_of now ≡ Sync = sync_of now.next (written_by now) last in
      let did : Syncs true (Ok tt) (device now.disk) (device new.disk) =
      subst (λ (c : Call). Does true true c (Ok tt) (device now.disk) (device new.disk)) sync call.does in
      λ c left. did.durable (tells t) c left ∙ sym (did.content (tells t))

  -- a call that was made
  pub one_more : (p : Progress) → MakesCall device now new (Ok p) → IsOnTheWay device old new
  one_more p call = record {
    running = call.next.1;
    same = same_then old now new so_far.same call.same;
    time = elapses_then (device old.disk) (device now.disk) (device new.disk) so_far.time call.time;
    failures = call.failures.ok ∙ so_far.failures;
    blocks = λ t.
        call.blocks (tells t) ∙ ap (λ (q : Progress). blocks_after now q) call.answers
        ∙ moved now (length now.numbers) now.last (sizes now) old.blocks (with_batch old) now.next flies (so_far.blocks t)
        (same_batch old now so_far.same)
        ∙ ap (λ (g : Next). if is_to_commit g then old.blocks else with_batch old) (sym call.next.0);
    synced = synced_by p call;
  }

  pub fewer : (p : Progress) → MakesCall device now new (Ok p)
      → all_calls (length new.numbers) (sizes new) - calls new < all_calls (length now.numbers) (sizes now) - calls now
  fewer p call =
      let size : length new.numbers ≡ length now.numbers = ap length call.same.numbers in
      let all : all_calls (length new.numbers) (sizes new) ≡ all_calls (length now.numbers) (sizes now) =
      ap (λ (k : ℕ). all_calls k (sizes new)) size ∙ ap (all_calls (length now.numbers)) (same_sizes now new call.same) in
      omega (arith, all, call.counts.0, call.counts.1)

  -- one that the device refused
  pub caused_by : (error : JournalError) → OnMade {T = Progress} (Err error) (MakesCall device now new (Err error))
      → OnRetried {T = Progress} (Err error) (IsRetried device now new) → (error ≡ Fault) ⊎ (error ≡ Memory)
      → IsCaused error (device old.disk) (device new.disk)
  caused_by error made retried (inl is) = inl (is, λ same. (made is).failures.fault is (same ∙ sym so_far.failures))
  caused_by error made retried (inr is) = inr (is, (retried is).refused.failures ∙ so_far.failures)

  pub time_by : (error : JournalError) → OnMade {T = Progress} (Err error) (MakesCall device now new (Err error))
      → OnRetried {T = Progress} (Err error) (IsRetried device now new) → (error ≡ Fault) ⊎ (error ≡ Memory)
      → Elapses (device old.disk) (device new.disk)
  time_by error made retried (inl is) = elapses_then (device old.disk) (device now.disk) (device new.disk) so_far.time (made is).time
  time_by error made retried (inr is) = elapses_then (device old.disk) (device now.disk) (device new.disk) so_far.time
      (retried is).refused.time
