-- What each event does, by its answer.
use Rattle.std.specs.Prelude.{◌⊎◌, ◌<◌, ◌≤◌, ◌-◌, IsTrue, ◌≡◌, ◌≢◌, ℕ, ◌+◌, Bool, true, false, List, [], ◌∷◌, ◌++◌, length, drop, map}
use Rattle.std.specs.Prelude.{slice_index_or, Option, Some, None, Result, Ok, Err, IfErr, MatchResult, slice_get, take}
use Rattle.disk.specs.Device.{Device}
use Rattle.journal.specs.Calls.{IsRetried, MakesCall, OnMade, OnRetried}
use Rattle.journal.specs.Journal.{begins, IsIdle, IsReady, JournalView}
use Rattle.journal.specs.Order.{is_growing}
use Rattle.journal.specs.declared.JournalError.{JournalError}
use Rattle.journal.specs.declared.JournalError.TheVariants as journal
use Rattle.journal.specs.declared.Progress.{Progress}
use Rattle.journal.specs.declared.Progress.TheVariants as progress
use Rattle.kernel_seats.specs.declared.Outcome.{Outcome}
use Rattle.kernel.specs.Kernel.{KernelView, Refusal, Tested, TestedOrMemory, admin_refusal_of, early_refusal, exec_refusal}
use Rattle.kernel.specs.Kernel.{expire_refusal_of, halted_for_good, has_batch, join_refusal, made_durable, mode_at, taken}
use Rattle.kernel.specs.Kernel as refusal
use Rattle.kernel_shared.specs.declared.errors.AdminError.{AdminError}
use Rattle.kernel_shared.specs.declared.errors.AdminError.TheVariants as admin
use Rattle.kernel_shared.specs.declared.errors.ExecError.{ExecError}
use Rattle.kernel_shared.specs.declared.errors.ExecError.TheVariants as exec
use Rattle.kernel_shared.specs.declared.errors.ExpireError.{ExpireError}
use Rattle.kernel_shared.specs.declared.errors.ExpireError.TheVariants as expire
use Rattle.kernel_shared.specs.declared.errors.JoinError.{JoinError}
use Rattle.kernel_shared.specs.declared.errors.JoinError.TheVariants as join
use Rattle.kernel_trace.specs.declared.errors.ArriveError.{ArriveError}
use Rattle.kernel_trace.specs.declared.errors.ArriveError.TheVariants as arrive
use Rattle.model.specs.Stream.{Octets}
use Rattle.model.specs.declared.change.Change.TheVariants.{Expire, Group}
use Rattle.model.specs.declared.message.Mark.{Mark}
use Rattle.model.specs.declared.message.Message.{Message}
use Rattle.model.specs.declared.message.Mode.{Mode}
use Rattle.text_names.specs.Requests.{group_of}
use Rattle.kernel_trace.specs.Events.{Makes, Serves, arrive_refusal, arrives, joins, leaves, releases, releases_of, with_kernel}
use Rattle.kernel_trace.specs.Traced.{next_of}
use Rattle.world.specs.World.{HasFailed, IsDurable, News, WorldView, kernel_of, with_served}
use Rattle.world.specs.declared.events.StepAnswer.{StepAnswer}
use Rattle.world.specs.declared.events.StepAnswer.TheVariants as answer
use Rattle.world.specs.declared.events.Event.{Event}
use Rattle.world.specs.declared.events.Event.TheVariants as event
use Rattle.world.specs.declared.events.StepError.{StepError}
use Rattle.world.specs.declared.events.StepError.TheVariants as error

abbrev pub of_kernel : Refusal → StepError
of_kernel refusal.Halted = error.Halted
of_kernel refusal.TooManySessions = error.TooManySessions
of_kernel refusal.LaterDirty = error.LaterDirty
of_kernel refusal.LaterOut = error.LaterOut
of_kernel refusal.NoSession = error.NoSession
of_kernel refusal.Exists = error.Exists
of_kernel refusal.NotFound = error.NotFound
of_kernel refusal.Full = error.Full

-- ---- Arrive and Exec

-- a message is served, or refused and still the session's next one; if no message has arrived whole, nothing happens
abbrev pub DidExec : {D : Type 0} → WorldView D → ℕ → ℕ → Option Mode → Option (Message × Octets) → Result StepAnswer StepError
    → WorldView D
    → Type 0
DidExec old number moment None found result new = (result ≡ Err error.NoSession) × (new ≡ old)
DidExec old number moment (Some mode) None result new =
    MatchResult result (λ a. (a ≡ answer.Served None) × (new ≡ old)) (λ e. (e ≡ error.Memory) × (new ≡ old))
DidExec old number moment (Some mode) (Some found) result new =
    TestedOrMemory of_kernel error.Memory None (exec_refusal (kernel_of old) number found.0) old new result
    (λ a. (outcome : Outcome) × (a ≡ answer.Served (Some outcome))
    × Serves old.served new.served number moment found.0 outcome × (new ≡ with_served old new.served))

-- ---- Stop

-- the service is stopped exactly if each accepted change is durable: then the kernel halts, and otherwise nothing happens
pub record DidStop {D : Type 0} (old : WorldView D) (result : Result StepAnswer StepError) (new : WorldView D) : Type 0 where
  pub stops : (kernel_of old).durable ≡ length (kernel_of old).spool →
      (result ≡ Ok (answer.Stopped true)) × (new ≡ with_served old (with_kernel old.served (halted_for_good (kernel_of old))))
  pub goes_on : (kernel_of old).durable ≢ length (kernel_of old).spool → (result ≡ Ok (answer.Stopped false)) × (new ≡ old)

-- ---- Take, Dev and Told

-- the journal with the kernel's dirty blocks as its batch
abbrev pub begun : {D : Type 0} → JournalView D → KernelView → JournalView D
begun journal kernel = begins journal (length kernel.spool) kernel.dirty (map (λ n. slice_index_or kernel.blocks n []) kernel.dirty)

-- a batch begins exactly if the journal is idle and not halted and the kernel has a batch
pub record DidTake {D : Type 0} (old : WorldView D) (result : Result StepAnswer StepError) (new : WorldView D) : Type 0 where
  pub takes : IsReady old.journal → has_batch (kernel_of old) ≡ true →
      (result ≡ Ok (answer.Took (Some (length (kernel_of old).spool))))
      × (new ≡ record {
        journal = begun old.journal (kernel_of old);
        served = with_kernel old.served (taken (kernel_of old));
        untold = old.untold;
      })
  pub stays : (IsReady old.journal → has_batch (kernel_of old) ≡ true → ⊥) → (result ≡ Ok (answer.Took None)) × (new ≡ old)

-- one step of the journal, on a device whose writes and syncs take memory or do not
pub record Steps {D : Type 0} (device : D → Device) (write_grows sync_grows : Bool) (old : JournalView D)
    (answered : Result Progress JournalError) (new : JournalView D) : Type 0 where
  pub halted : old.halted ≡ true → (answered ≡ Err journal.Halted) × (new ≡ old)
  pub idle : old.halted ≡ false → IsIdle old → (answered ≡ Ok progress.Idle) × (new ≡ old)
  pub call : old.halted ≡ false → (IsIdle old → ⊥) → OnMade answered (MakesCall device old new answered)
  pub retried : old.halted ≡ false → (IsIdle old → ⊥) → OnRetried answered (IsRetried device old new)
  pub no_other : old.halted ≡ false → IfErr answered (λ error. (error ≡ journal.Fault) ⊎ (error ≡ journal.Memory))
  pub memory : IfErr answered (λ error. error ≡ journal.Memory → IsTrue (is_growing old.next write_grows sync_grows))

abbrev pub news_of : Result Progress JournalError → List News
news_of (Ok (progress.Committed last)) = IsDurable last ∷ []
news_of (Ok p) = []
news_of (Err journal.Fault) = HasFailed ∷ []
news_of (Err e) = []

-- whether it commits the batch, and whether the device failed
abbrev pub commits : Result Progress JournalError → Bool
commits (Ok (progress.Committed last)) = true
commits other = false

abbrev pub fails : Result Progress JournalError → Bool
fails (Err journal.Fault) = true
fails other = false

-- its answer
abbrev pub dev_answer : Result Progress JournalError → Result StepAnswer StepError
dev_answer (Ok p) = Ok (answer.Progressed p)
dev_answer (Err journal.Fault) = Err error.Fault
dev_answer (Err journal.Memory) = Err error.Memory
dev_answer (Err e) = Err error.Halted

pub record DidDev {D : Type 0} (device : D → Device) (write_grows sync_grows : Bool) (old : WorldView D)
    (result : Result StepAnswer StepError)
    (new : WorldView D) : Type 0 where
  pub answered : Result Progress JournalError
  pub steps : Steps device write_grows sync_grows old.journal answered new.journal
  pub result_is : result ≡ dev_answer answered
  pub untold : new.untold ≡ old.untold ++ news_of answered
  pub served : new.served ≡ old.served

-- the kernel learns the oldest news
abbrev pub told : KernelView → List News → KernelView
told kernel [] = kernel
told kernel (IsDurable last ∷ later) = made_durable kernel last
told kernel (HasFailed ∷ later) = halted_for_good kernel

-- ---- all events

-- What an event does, by its answer. A refusal changes nothing, except that a failed device call halts the journal. A
-- call that the device refuses for want of memory leaves the device's content and counts as they were; only a device that
-- takes memory for that call refuses it so.
abbrev pub Did : {D : Type 0} → (D → Device) → Bool → Bool → WorldView D → Event → Result StepAnswer StepError → WorldView D → Type 0
Did device write_grows sync_grows old event.Join result new =
    Tested of_kernel error.Memory (join_refusal (kernel_of old)) old new result (λ a. (a ≡ answer.Joined ((kernel_of old).joined + 1))
    × (new ≡ with_served old (joins old.served)))
Did device write_grows sync_grows old (event.Leave number) result new =
    (result ≡ Ok answer.Done) × (new ≡ with_served old (leaves old.served number))
Did device write_grows sync_grows old (event.Arrive number octets) result new =
    Tested of_kernel error.Memory (arrive_refusal (kernel_of old) number) old new result
    (λ a. (a ≡ answer.Done) × (new ≡ with_served old (arrives old.served number octets.items)))
Did device write_grows sync_grows old (event.Exec number moment) result new =
    DidExec old number moment (mode_at (kernel_of old) number) (next_of old.served number) result new
Did device write_grows sync_grows old (event.Admin group) result new =
    TestedOrMemory of_kernel error.Memory (early_refusal (kernel_of old)) (admin_refusal_of (kernel_of old) (Group (group_of group))) old
    new result
    (λ a. (serial : ℕ) × (a ≡ answer.Made serial) × Makes old.served new.served (Group (group_of group)) serial
    × (new ≡ with_served old new.served))
Did device write_grows sync_grows old (event.Expire name number) result new =
    TestedOrMemory of_kernel error.Memory (early_refusal (kernel_of old))
    (expire_refusal_of (kernel_of old) (Expire (record { group = name; number = number }))) old new result
    (λ a. (serial : ℕ) × (a ≡ answer.Made serial)
    × Makes old.served new.served (Expire (record { group = name; number = number })) serial × (new ≡ with_served old new.served))
Did device write_grows sync_grows old event.Take result new = DidTake old result new
Did device write_grows sync_grows old event.Dev result new = DidDev device write_grows sync_grows old result new
Did device write_grows sync_grows old event.Told result new =
    (result ≡ Ok answer.Done) × (new ≡ record {
      journal = old.journal;
      served = with_kernel old.served (told (kernel_of old) old.untold);
      untold = drop 1 old.untold;
    })
Did device write_grows sync_grows old event.Release result new =
    MatchResult result (λ a. (a ≡ answer.Done) × (new ≡ with_served old (releases old.served))) (λ e. (e ≡ error.Memory) × (new ≡ old))
Did device write_grows sync_grows old (event.ReleaseOf number room) result new =
    MatchResult result (λ a. (a ≡ answer.Done) × (new ≡ with_served old (releases_of old.served number room)))
    (λ e. (e ≡ error.Memory) × (new ≡ old))
Did device write_grows sync_grows old event.Stop result new = DidStop old result new

-- whether a result is a refusal for memory
abbrev pub for_memory : Result StepAnswer StepError → Bool
for_memory (Err error.Memory) = true
for_memory other = false

-- these events were done one after another; those that were refused, but not for memory, were skipped
pub data Went {D : Type 0} (device : D → Device) (write_grows sync_grows : Bool) : WorldView D → List Event → WorldView D → Type 0 where
  none : (world : WorldView D) → Went device write_grows sync_grows world [] world
  more : (old middle new : WorldView D) (first : Event) (events : List Event) (result : Result StepAnswer StepError)
      → result ≢ Err error.Memory → Did device write_grows sync_grows old first result middle
      → Went device write_grows sync_grows middle events new → Went device write_grows sync_grows old (first ∷ events) new

-- the first n events were done, and the next one, if there is one, was refused for memory
pub record Ran {D : Type 0} (device : D → Device) (write_grows sync_grows : Bool) (old : WorldView D) (events : List Event) (n : ℕ)
    (new : WorldView D) : Type 0 where
  pub middle : WorldView D
  pub went : Went device write_grows sync_grows old (take n events) middle
  pub ended : length events ≤ n → new ≡ middle
  pub stopped : n < length events
      → (event : Event) × (slice_get events n ≡ Some event) × Did device write_grows sync_grows middle event (Err error.Memory) new

-- This world stood after the first j of the n events that were done, on the way to the last one.
pub record Passed {D : Type 0} (device : D → Device) (write_grows sync_grows : Bool) (old : WorldView D) (events : List Event) (n : ℕ)
    (new : WorldView D) (j : ℕ) (middle : WorldView D) : Type 0 where
  pub within : j ≤ n
  pub before : Went device write_grows sync_grows old (take j events) middle
  pub after : Ran device write_grows sync_grows middle (drop j events) (n - j) new

-- the kernel's refusals, as the errors that report them
abbrev pub of_join_error : JoinError → StepError
of_join_error join.Halted = error.Halted
of_join_error join.TooManySessions = error.TooManySessions
of_join_error join.Memory = error.Memory

abbrev pub of_exec_error : ExecError → StepError
of_exec_error exec.NoSession = error.NoSession
of_exec_error exec.LaterOut = error.LaterOut
of_exec_error exec.LaterDirty = error.LaterDirty
of_exec_error exec.Memory = error.Memory

abbrev pub exec_answer : Result (Option Outcome) ExecError → Result StepAnswer StepError
exec_answer (Ok answered) = Ok (answer.Served answered)
exec_answer (Err e) = Err (of_exec_error e)

abbrev pub of_admin_error : AdminError → StepError
of_admin_error admin.Halted = error.Halted
of_admin_error admin.LaterDirty = error.LaterDirty
of_admin_error admin.Exists = error.Exists
of_admin_error admin.Full = error.Full
of_admin_error admin.Memory = error.Memory

abbrev pub of_expire_error : ExpireError → StepError
of_expire_error expire.Halted = error.Halted
of_expire_error expire.LaterDirty = error.LaterDirty
of_expire_error expire.NotFound = error.NotFound
of_expire_error expire.Full = error.Full
of_expire_error expire.Memory = error.Memory

abbrev pub of_arrive_error : ArriveError → StepError
of_arrive_error arrive.NoSession = error.NoSession
of_arrive_error arrive.Memory = error.Memory
