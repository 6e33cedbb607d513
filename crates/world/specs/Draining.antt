-- How the system comes to rest by itself.
use Rattle.std.specs.Prelude.{◌≡◌, ◌≢◌, ◌⊎◌, ◌≤◌, ◌-◌, ◌+◌, ◌==◌, ◌||◌, not, if◌then◌else◌, ℕ, Bool, true, false, IsTrue, List, [], length}
use Rattle.std.specs.Prelude.{All, MatchResult, None, Err, IfErr, OnOk, Result, Some, option_map, unwrap_or}
use Rattle.disk.specs.Device.{Device}
use Rattle.journal.specs.Journal.{IsReady, IsSameBatch, JournalView, sizes}
use Rattle.journal.specs.Order.{IsMore, syncs_made, writes_made}
use Rattle.journal.specs.declared.Next.TheVariants as next
use Rattle.kernel.specs.Kernel.{KernelView}
use Rattle.model.specs.Stream.{Octets}
use Rattle.kernel_trace.specs.Events.{releases, with_kernel}
use Rattle.kernel_trace.specs.Traced.{Sent, TracedView, arrived_at, released_at, replies_to, session_at}
use Rattle.world.specs.Events.{Passed, Ran, begun}
use Rattle.world.specs.Images.{EachSince, Fits, LeftFits}
use Rattle.world.specs.Tied.{IsWorld}
use Rattle.world.specs.World.{WorldView, kernel_of, with_served}
use Rattle.world.specs.declared.events.Event.{Event}
use Rattle.world.specs.declared.events.Event.TheVariants as event
use Rattle.world.specs.declared.events.StepError.{StepError}
use Rattle.world.specs.declared.events.StepError.TheVariants as error

-- ---- the way

-- the events that the system makes by itself: none of a session, and none of the operator
abbrev pub IsInner : Event → Type 0
IsInner event.Take = Unit {0}
IsInner event.Dev = Unit {0}
IsInner event.Told = Unit {0}
IsInner event.Release = Unit {0}
IsInner other = ⊥

-- This world stood after some first ones of these events, and the image fits it.
abbrev pub FitsPassed : {D : Type 0} → (D → Device) → Bool → Bool → WorldView D → List Event → ℕ → WorldView D → Octets → Type 0
FitsPassed {D} device write_grows sync_grows old events count new image =
    (j : ℕ) × (middle : WorldView D) × Passed device write_grows sync_grows old events count new j middle × Fits middle image

-- Inner events happened one after another, as in a run of them: all, unless one was refused for memory.
pub record RunsInner {D A : Type 0} (device : D → Device) (write_grows sync_grows : Bool) (old : WorldView D) (result : Result A StepError)
    (new : WorldView D) : Type 0 where
  pub events : List Event
  pub inner : All IsInner events
  pub count : ℕ
  pub within : count ≤ length events
  pub all : result ≢ Err error.Memory → count ≡ length events
  pub ran : Ran device write_grows sync_grows old events count new
  -- a crash at some moment leaves what is synchronous with the state after some of them
  pub during : EachSince (device old.journal.disk) (device new.journal.disk)
      (FitsPassed device write_grows sync_grows old events count new)
  pub since : LeftFits (device old.journal.disk) (device new.journal.disk)
      (FitsPassed device write_grows sync_grows old events count new)
  pub tells : (device new.journal.disk).tells ≡ (device old.journal.disk).tells
  pub later : (device old.journal.disk).clock ≤ (device new.journal.disk).clock

-- ---- what stands at the end

-- Each accepted change is durable, and nothing is on its way. The kernel is halted only if the service was stopped.
pub record IsSettled {D : Type 0} (device : D → Device) (stopped : Bool) (world : WorldView D) : Type 0 where
  pub ready : IsReady world.journal
  pub halted : (kernel_of world).halted ≡ stopped
  pub none : (kernel_of world).in_flight ≡ None
  pub clean : (kernel_of world).dirty ≡ []
  pub told : world.untold ≡ []
  pub durable : IsTrue (device world.journal.disk).tells → (kernel_of world).durable ≡ length (kernel_of world).spool

-- Nothing was asked meanwhile: no session joined or left, no octets arrived, and nothing was served.
pub record AsksNothing (old new : TracedView) : Type 0 where
  pub host : new.kernel.host ≡ old.kernel.host
  pub first : new.first ≡ old.first
  pub spool : new.kernel.spool ≡ old.kernel.spool
  pub trace : new.trace ≡ old.trace
  pub arrived : (number : ℕ) → arrived_at new number ≡ arrived_at old number
  pub left : (number : ℕ) → option_map (λ (sent : Sent). sent.left) (session_at new.sessions number)
      ≡ option_map (λ (sent : Sent). sent.left) (session_at old.sessions number)

-- each session that joined and did not leave was sent all that it is ever sent for what it asked
abbrev pub SendsAll : TracedView → TracedView → Type 0
SendsAll old new = (number : ℕ) (sent : Sent) → session_at old.sessions number ≡ Some sent → sent.left ≡ false
    → released_at new number ≡ replies_to old number

-- ---- what hinders it

-- The device failed in the call; or an earlier fault had halted the system, and nothing changes; or memory was refused,
-- for the given reason.
abbrev pub IsHindered : {D : Type 0} → (D → Device) → WorldView D → WorldView D → Type 0 → StepError → Type 0
IsHindered device old new memory e =
    ((old.journal.halted ≡ false) × (e ≡ error.Fault) × ((device new.journal.disk).failures ≢ (device old.journal.disk).failures))
    ⊎ (((old.journal.halted ≡ true) × (e ≡ error.Halted) × (new ≡ old))
    ⊎ ((old.journal.halted ≡ false) × (e ≡ error.Memory)
    × ((device new.journal.disk).failures ≡ (device old.journal.disk).failures) × memory))

-- no fault had halted the system, and no device call failed
pub record IsStill {D : Type 0} (device : D → Device) (old new : WorldView D) : Type 0 where
  pub ran : old.journal.halted ≡ false
  pub failures : (device new.journal.disk).failures ≡ (device old.journal.disk).failures

-- ---- what it costs

-- the writes and the syncs that the batch in flight has yet to ask for
abbrev pub writes_left : {D : Type 0} → JournalView D → ℕ
writes_left journal = writes_made (length journal.numbers) (sizes journal) next.Idle
    - writes_made (length journal.numbers) (sizes journal) journal.next

abbrev pub syncs_left : {D : Type 0} → JournalView D → ℕ
syncs_left journal = syncs_made (sizes journal) next.Idle - syncs_made (sizes journal) journal.next

-- the batch in flight, and one of the dirty blocks, if there are any
pub record CostsToSettle {D : Type 0} (device : D → Device) (old : WorldView D) (new : Device) : Type 0 where
  pub writes : IsMore (writes_left old.journal
      + (if length (kernel_of old).dirty == 0 then 0 else writes_left (begun old.journal (kernel_of old))))
      (device old.journal.disk).writes new.writes
  pub syncs : IsMore (syncs_left old.journal
      + (if length (kernel_of old).dirty == 0 then 0 else syncs_left (begun old.journal (kernel_of old))))
      (device old.journal.disk).syncs new.syncs

-- ---- its parts

-- the kernel with that many durable changes, that batch in flight and those dirty blocks
abbrev pub with_progress : KernelView → KernelView → KernelView
with_progress old new = record old { dirty = new.dirty; durable = new.durable; in_flight = new.in_flight }

-- The journal made device calls, all that its batch had left if it was not hindered.
pub record CarriesOut {D : Type 0} (device : D → Device) (write_grows sync_grows : Bool) (old : WorldView D)
    (result : Result (Unit {0}) StepError) (new : WorldView D) : Type 0 where
  pub inner : RunsInner device write_grows sync_grows old result new
  pub keeps : IsWorld device new
  pub served : new.served ≡ old.served
  pub ready : OnOk result (IsReady new.journal)
  pub same : OnOk result (IsSameBatch old.journal new.journal)
  pub still : OnOk result (IsStill device old new)
  pub writes : OnOk result (IsMore (writes_left old.journal) (device old.journal.disk).writes (device new.journal.disk).writes)
  pub syncs : OnOk result (IsMore (syncs_left old.journal) (device old.journal.disk).syncs (device new.journal.disk).syncs)
  pub hindered : IfErr result (IsHindered device old new (IsTrue (write_grows || sync_grows)))

-- the kernel, once the batch in flight is durable
abbrev pub with_batch_durable : KernelView → KernelView
with_batch_durable kernel = record kernel { durable = unwrap_or kernel.in_flight kernel.durable; in_flight = None }

-- So it did, and the kernel learned of it.
pub record FinishesBatch {D : Type 0} (device : D → Device) (write_grows sync_grows : Bool) (old : WorldView D)
    (result : Result (Unit {0}) StepError) (new : WorldView D) : Type 0 where
  pub inner : RunsInner device write_grows sync_grows old result new
  pub keeps : IsWorld device new
  pub served : MatchResult result (λ done. new.served ≡ with_kernel old.served (with_batch_durable (kernel_of old)))
      (λ e. new.served ≡ old.served)
  pub told : OnOk result (new.untold ≡ [])
  pub ready : OnOk result (IsReady new.journal)
  pub same : OnOk result (IsSameBatch old.journal new.journal)
  pub still : OnOk result (IsStill device old new)
  pub writes : OnOk result (IsMore (writes_left old.journal) (device old.journal.disk).writes (device new.journal.disk).writes)
  pub syncs : OnOk result (IsMore (syncs_left old.journal) (device old.journal.disk).syncs (device new.journal.disk).syncs)
  pub hindered : IfErr result (IsHindered device old new (IsTrue (write_grows || sync_grows)))

-- What was ready was handed out, and the answer is whether that was anything; or memory was refused, and nothing changed.
pub record ReleasesSome {D : Type 0} (device : D → Device) (write_grows sync_grows : Bool) (old : WorldView D)
    (result : Result Bool StepError) (new : WorldView D) : Type 0 where
  pub inner : RunsInner device write_grows sync_grows old result new
  pub keeps : IsWorld device new
  pub did : MatchResult result
      (λ gave. (new ≡ with_served old (releases old.served)) × (gave ≡ not (length new.served.ready == 0)))
      (λ e. (e ≡ error.Memory) × (new ≡ old))
