-- What a crash at some moment of an event might have left.
use Rattle.std.proofs.Common.{◌≡◌, ◌≢◌, ◌⊎◌, inl, inr, ⊎_elim, ℕ, ◌≤◌, Bool, true, false, Option, Some, None, refl, ap, sym, ◌∙◌, subst}
use Rattle.std.proofs.Common.{arith, length}
use Rattle.std.specs.Prelude.{IsTrue, IfErr, MatchResult, Result, Ok, Err}
use Rattle.disk.specs.Device.{Device, Elapses}
use Rattle.journal.specs.Calls.{IsRetried, MakesCall, OnMade, OnRetried}
use Rattle.journal.specs.Journal.{Admits, JournalView, LeftAdmitted}
use Rattle.journal.specs.declared.JournalError.{JournalError}
use Rattle.journal.proofs.Waiting.{idle_or_flies}
use Rattle.journal.specs.declared.Next.TheVariants as next
use Rattle.journal.specs.declared.Progress.{Progress}
use Rattle.kernel.specs.Kernel.{Refusal, TestedOrMemory, has_batch, join_refusal, mode_at}
use Rattle.model.specs.Stream.{Octets}
use Rattle.model.specs.declared.message.Message.{Message}
use Rattle.model.specs.declared.message.Mode.{Mode}
use Rattle.kernel_trace.specs.Events.{arrive_refusal}
use Rattle.kernel_trace.specs.Traced.{TracedView, arrived_at, first_spool, next_of, released_at}
use Rattle.world.specs.Events.{Did, DidDev, DidExec, DidTake, of_kernel}
use Rattle.journal.specs.declared.JournalError.TheVariants as journal
use Rattle.world.specs.Images.{EachSince, Fits, IsSynchronous, LeftFits, MayBeLeft}
use Rattle.world.specs.Tied.{IsWorld}
use Rattle.world.specs.World.{WorldView, kernel_of, with_served}
use Rattle.world.specs.declared.events.StepAnswer.{StepAnswer}
use Rattle.world.specs.declared.events.Event.{Event}
use Rattle.world.specs.declared.events.Event.TheVariants as event
use Rattle.world.specs.declared.events.StepError.{StepError}
use Rattle.world.specs.declared.events.StepError.TheVariants as error
use Rattle.world.proofs.Fitting.{admits_fits, now_fits}
use Rattle.world.proofs.Sound.{same_or_not, tested_or}

-- an image fits by what is served alone
FitsAt : TracedView → Octets → Type 0
FitsAt served image = (p : ℕ) × MayBeLeft served.kernel p × IsSynchronous served.kernel.host (first_spool served)
    (arrived_at served) served.trace (released_at served) p image

module _ {D : Type 0} (device : D → Device) (write_grows sync_grows : Bool) (old new : WorldView D) where
  Left : Type 0
  Left =
      LeftFits (device old.journal.disk) (device new.journal.disk) (Fits old)
      × (((device new.journal.disk).tells ≡ (device old.journal.disk).tells)
      × ((device old.journal.disk).clock ≤ (device new.journal.disk).clock))

  -- an event without a device call
  same_disk : new.journal.disk ≡ old.journal.disk → Left
  unfolding Left
  same_disk same = (
    λ tells t image le left. inl (subst (λ d. (device d).left_since t image) same left),
    (ap (λ d. (device d).tells) same, subst (λ d. (device old.journal.disk).clock ≤ (device d).clock) (sym same) (omega arith)),
  )

  by_world : new ≡ old → Left
  by_world is = same_disk (ap (λ (w : WorldView D). w.journal.disk) is)

  by_served : (served : TracedView) → new ≡ with_served old served → Left
  by_served served is = same_disk (ap (λ (w : WorldView D). w.journal.disk) is)

  by_tests : {A E : Type 0} (as_error : Refusal → E) (memory : E) (early refusal : Option Refusal) (r : Result A E) (done : A → Type 0)
      → ((x : A) → done x → Left) → TestedOrMemory as_error memory early refusal old new r done → Left
  by_tests as_error memory early refusal (Ok x) done f h = f x h.1
  by_tests as_error memory early refusal (Err e) done f h = by_world h.1

  left_exec : (number moment : ℕ) (m : Option Mode) (found : Option (Message × Octets)) (r : Result StepAnswer StepError)
      → DidExec old number moment m found r new → Left
  left_exec number moment None found r d = by_world d.1
  left_exec number moment (Some mode) None (Ok a) d = by_world d.1
  left_exec number moment (Some mode) None (Err e) d = by_world d.1
  left_exec number moment (Some mode) (Some found) (Ok a) d = by_served new.served d.1.3
  left_exec number moment (Some mode) (Some found) (Err e) d = by_world d.1

  left_take : (r : Result StepAnswer StepError) → DidTake old r new → Left
  left_take r d = go old.journal.halted refl (idle_or_flies old.journal.next) (has_batch (kernel_of old)) refl
    where
      begins : old.journal.halted ≡ false → old.journal.next ≡ next.Idle → has_batch (kernel_of old) ≡ true → Left
      begins runs idle has = same_disk (ap (λ (w : WorldView D). w.journal.disk) (d.takes (runs, idle) has).1)

      go : (halted : Bool) → old.journal.halted ≡ halted → (old.journal.next ≡ next.Idle) ⊎ (old.journal.next ≢ next.Idle) → (has : Bool)
          → has_batch (kernel_of old) ≡ has → Left
      go true is at has is_there = by_world (d.stays (λ ready b. absurd (let both : true ≡ false = sym is ∙ ready.0 in cc))).1
      go false is at false is_there = by_world (d.stays (λ ready b. absurd (let both : false ≡ true = sym is_there ∙ b in cc))).1
      go false is (inl idle) true is_there = begins is idle is_there
      go false is (inr flies) true is_there = by_world (d.stays (λ ready has. flies ready.1)).1

  -- a device call
  left_dev : (r : Result StepAnswer StepError) → IsWorld device new → DidDev device write_grows sync_grows old r new → Left
  unfolding Left FitsAt
  left_dev r h d = go old.journal.halted refl (idle_or_flies old.journal.next)
    where
      same : new.journal ≡ old.journal → Left
      same is = same_disk (ap (λ (j : JournalView D). j.disk) is)

      called : Elapses (device old.journal.disk) (device new.journal.disk) → LeftAdmitted device old.journal new.journal → Left
      called time since = (
        λ tells t image le left. ⊎_elim (λ (was : (device old.journal.disk).left_since t image). inl was)
            (λ (admits : Admits new.journal image). inr
            (subst (λ s. FitsAt s image) d.served (admits_fits device new h (subst IsTrue (sym time.tells) tells) image admits)))
            (since tells t image le left),
        (time.tells, time.later),
      )

      by_answer : (a : Result Progress JournalError) → OnMade a (MakesCall device old.journal new.journal a)
          → OnRetried a (IsRetried device old.journal new.journal) → IfErr a (λ e. (e ≡ journal.Fault) ⊎ (e ≡ journal.Memory)) → Left
      by_answer (Ok p) m retried errors = called m.time m.since
      by_answer (Err e) made retried (inl is) = called (made is).time (made is).since
      by_answer (Err e) made retried (inr is) = called (retried is).refused.time (retried is).since

      calls : old.journal.halted ≡ false → (old.journal.next ≡ next.Idle → ⊥) → Left
      calls runs busy = by_answer d.answered (d.steps.call runs busy) (d.steps.retried runs busy) (d.steps.no_other runs)

      go : (halted : Bool) → old.journal.halted ≡ halted → (old.journal.next ≡ next.Idle) ⊎ (old.journal.next ≢ next.Idle) → Left
      go true is at = same (d.steps.halted is).1
      go false is (inl idle) = same (d.steps.idle is idle).1
      go false is (inr flies) = calls is flies

  left_release : (r : Result StepAnswer StepError) (P : StepAnswer → Type 0) → ((a : StepAnswer) → P a → Left)
      → MatchResult r P (λ e. (e ≡ error.Memory) × (new ≡ old)) → Left
  left_release (Ok a) P f h = f a h
  left_release (Err e) P f h = by_world h.1

  did_left : (e : Event) (r : Result StepAnswer StepError) → IsWorld device new → Did device write_grows sync_grows old e r new → Left
  did_left event.Join r h d = by_tests of_kernel error.Memory None (join_refusal (kernel_of old)) r _ (λ a done. by_served _ done.1)
      (tested_or of_kernel error.Memory (join_refusal (kernel_of old)) old new r _ d)
  did_left (event.Leave number) r h d = by_served _ d.1
  did_left (event.Arrive number octets) r h d =
      by_tests of_kernel error.Memory None (arrive_refusal (kernel_of old) number) r _ (λ a done. by_served _ done.1)
      (tested_or of_kernel error.Memory (arrive_refusal (kernel_of old) number) old new r _ d)
  did_left (event.Exec number moment) r h d = left_exec number moment (mode_at (kernel_of old) number) (next_of old.served number) r d
  did_left (event.Admin group) r h d = by_tests of_kernel error.Memory _ _ r _ (λ a done. by_served new.served done.3) d
  did_left (event.Expire name number) r h d = by_tests of_kernel error.Memory _ _ r _ (λ a done. by_served new.served done.3) d
  did_left event.Take r h d = left_take r d
  did_left event.Dev r h d = left_dev r h d
  did_left event.Told r h d = same_disk (ap (λ (w : WorldView D). w.journal.disk) d.1)
  did_left event.Release r h d = left_release r _ (λ a done. by_served _ done.1) d
  did_left (event.ReleaseOf number room) r h d = left_release r _ (λ a done. by_served _ done.1) d
  did_left event.Stop r h d =
      ⊎_elim (λ (clean : (kernel_of old).durable ≡ length (kernel_of old).spool). by_served _ (d.stops clean).1)
      (λ (more : (kernel_of old).durable ≢ length (kernel_of old).spool). by_world (d.goes_on more).1)
      (same_or_not (kernel_of old).durable (length (kernel_of old).spool))

  -- a crash at some moment of the event leaves what fits the world before it
  pub step_since : (e : Event) (r : Result StepAnswer StepError) → IsWorld device new → Did device write_grows sync_grows old e r new
      → LeftFits (device old.journal.disk) (device new.journal.disk) (Fits old)
  unfolding Left
  step_since e r h d = (did_left e r h d).0

  -- the device tells as before, and time goes on
  pub step_goes_on : (e : Event) (r : Result StepAnswer StepError) → IsWorld device new → Did device write_grows sync_grows old e r new
      → ((device new.journal.disk).tells ≡ (device old.journal.disk).tells)
      × ((device old.journal.disk).clock ≤ (device new.journal.disk).clock)
  unfolding Left
  step_goes_on e r h d = (did_left e r h d).1

  pub step_during : ((d : D) (image : Octets) → IsTrue (device d).tells → (device d).left_since (device d).clock image
      → (device d).may_leave image) → IsWorld device old → LeftFits (device old.journal.disk) (device new.journal.disk) (Fits old)
      → EachSince (device old.journal.disk) (device new.journal.disk) (Fits old)
  step_during only_now h since tells image left =
      ⊎_elim (λ (was : (device old.journal.disk).left_since (device old.journal.disk).clock image). now_fits device old h tells image
      (only_now old.journal.disk image tells was))
      (λ (fits : Fits old image). fits)
      (since tells (device old.journal.disk).clock image (omega arith) left)
