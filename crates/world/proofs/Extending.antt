-- No event changes what a system began with: it only puts changes behind those that are there.
use Rattle.std.proofs.Common.{◌≡◌, ◌≢◌, ⊎_elim, inl, inr, ◌⊎◌, ℕ, ◌≤◌, length, take, Bool, true, false, List, [], ◌∷◌, ◌++◌, Option, Some}
use Rattle.std.proofs.Common.{None, refl, ap, sym, ◌∙◌, subst, arith, append_assoc}
use Rattle.std.proofs.lemmas.List.{append-nil}
use Rattle.std.specs.Prelude.{Result, Ok, Err, MatchResult}
use Rattle.std.specs.Option.{option_to_list}
use Rattle.disk.specs.Device.{Device}
use Rattle.journal.specs.declared.Next.{Next}
use Rattle.journal.specs.declared.Next.TheVariants as next
use Rattle.kernel_seats.specs.declared.Outcome.{Outcome}
use Rattle.kernel.specs.Kernel.{KernelView, Refusal, Tested, TestedOrMemory, admin_refusal_of, early_refusal, exec_refusal}
use Rattle.kernel.specs.Kernel.{expire_refusal_of, halted_for_good, has_batch, join_refusal, mode_at, taken}
use Rattle.model.specs.Spool.{Spool}
use Rattle.model.specs.Stream.{Octets}
use Rattle.model.specs.declared.change.Change.{Change}
use Rattle.model.specs.declared.change.Change.TheVariants.{Expire, Group}
use Rattle.model.specs.declared.message.Mark.{Mark}
use Rattle.model.specs.declared.message.Message.{Message}
use Rattle.model.specs.declared.message.Mode.{Mode}
use Rattle.text_names.specs.Requests.{group_of}
use Rattle.kernel_trace.specs.Events.{Makes, Serves, arrive_refusal, arrives, joins, leaves, releases, releases_of, with_kernel}
use Rattle.kernel_trace.specs.Traced.{TracedView, next_of}
use Rattle.world.specs.Events.{Did, DidExec, DidTake, Went, more, none, of_kernel, told}
use Rattle.world.specs.World.{HasFailed, IsDurable, News, WorldView, kernel_of, with_served}
use Rattle.world.specs.declared.events.Event.{Event}
use Rattle.world.specs.declared.events.Event.TheVariants as event
use Rattle.world.specs.declared.events.StepAnswer.{StepAnswer}
use Rattle.world.specs.declared.events.StepError.{StepError}
use Rattle.world.specs.declared.events.StepError.TheVariants as error
use Rattle.world.proofs.Sound.{same_or_not}

-- the same host, the same number of changes at the opening, and more changes behind those that were there
pub record Extends (old new : TracedView) : Type 0 where
  pub first : new.first ≡ old.first
  pub host : new.kernel.host ≡ old.kernel.host
  pub added : Spool
  pub spool : new.kernel.spool ≡ old.kernel.spool ++ added

-- as many changes as before
alike : (old new : TracedView) → new.first ≡ old.first → new.kernel.host ≡ old.kernel.host → new.kernel.spool ≡ old.kernel.spool
    → Extends old new
alike old new first host spool =
    record { first = first; host = host; added = []; spool = spool ∙ sym (append-nil old.kernel.spool) }

pub same : (served : TracedView) → Extends served served
same served = alike served served refl refl refl

pub trans : (old middle new : TracedView) → Extends old middle → Extends middle new → Extends old new
trans old middle new a b = record {
  first = b.first ∙ a.first;
  host = b.host ∙ a.host;
  added = a.added ++ b.added;
  spool = b.spool ∙ (ap (λ (S : Spool). S ++ b.added) a.spool ∙ append_assoc old.kernel.spool a.added b.added);
}

by_serving : (old new : TracedView) (number moment : ℕ) (message : Message) (outcome : Outcome)
    → Serves old new number moment message outcome → Extends old new
by_serving old new number moment message outcome s = record {
  first = s.first;
  host = s.kernel.executed.host;
  added = _;
  spool = s.kernel.executed.spool;
}

by_making : (old new : TracedView) (change : Change) (serial : ℕ) → Makes old new change serial → Extends old new
by_making old new change serial m =
    record { first = m.first; host = m.kernel.rest.0; added = change ∷ []; spool = m.kernel.spool }

told_extends : (served : TracedView) (news : List News) → Extends served (with_kernel served (told served.kernel news))
told_extends served [] = same served
told_extends served (IsDurable last ∷ later) = alike served _ refl refl refl
told_extends served (HasFailed ∷ later) = alike served _ refl refl refl

-- a call that tests, or is refused for memory, and else does something
module _ {A E V : Type 0} (Q : Type 0) (as_error : Refusal → E) (memory : E) (old new : V) (done : A → Type 0) (stays : new ≡ old → Q)
    (goes : (a : A) → done a → Q) where
  from_tested : (refusal : Option Refusal) (result : Result A E) → Tested as_error memory refusal old new result done → Q
  from_tested (Some refusal) result t = stays t.1
  from_tested None (Ok a) t = goes a t
  from_tested None (Err e) t = stays t.1

  from_late : (early refusal : Option Refusal) (result : Result A E) → TestedOrMemory as_error memory early refusal old new result done → Q
  from_late early refusal (Ok a) t = goes a t.1
  from_late early refusal (Err e) t = stays t.1

module _ {D : Type 0} (device : D → Device) (write_grows sync_grows : Bool) (old new : WorldView D) where
  stays : new ≡ old → Extends old.served new.served
  stays e = subst (λ (w : WorldView D). Extends old.served w.served) (sym e) (same old.served)

  goes : (served : TracedView) → Extends old.served served → new ≡ with_served old served → Extends old.served new.served
  goes served h e = subst (λ (w : WorldView D). Extends old.served w.served) (sym e) h

  exec_extends : (number moment : ℕ) (mode : Option Mode) (found : Option (Message × Octets)) (result : Result StepAnswer StepError)
      → DidExec old number moment mode found result new → Extends old.served new.served
  exec_extends number moment None found result d = stays d.1
  exec_extends number moment (Some mode) None (Ok a) d = stays d.1
  exec_extends number moment (Some mode) None (Err e) d = stays d.1
  exec_extends number moment (Some mode) (Some found) result d =
      from_late (Extends old.served new.served) of_kernel error.Memory old new _ stays
      (λ a h. by_serving old.served new.served number moment found.0 h.0 h.2) None (exec_refusal (kernel_of old) number found.0) result d

  -- whether a batch begins can be told
  is_idle : (n : Next) → (n ≡ next.Idle) ⊎ (n ≡ next.Idle → ⊥)
  is_idle next.Idle = inl refl
  is_idle n = inr (λ e. absurd (cc e))

  can_take : (halted has : Bool) (n : Next) → ((halted ≡ false) × (n ≡ next.Idle) × (has ≡ true))
      ⊎ ((halted ≡ false) × (n ≡ next.Idle) → has ≡ true → ⊥)
  can_take true has n = inr (λ r h. absurd (cc (r.0)))
  can_take false false n = inr (λ r h. absurd (cc h))
  can_take false true n = ⊎_elim (λ e. inl (refl, e, refl)) (λ other. inr (λ r h. other r.1)) (is_idle n)

  take_extends : (result : Result StepAnswer StepError) → DidTake old result new → Extends old.served new.served
  take_extends result d =
      ⊎_elim
      (λ can. subst (λ (w : WorldView D). Extends old.served w.served) (sym (d.takes (can.0, can.1) can.2).1)
      (alike old.served (with_kernel old.served (taken (kernel_of old))) refl refl refl))
      (λ (not : (old.journal.halted ≡ false) × (old.journal.next ≡ next.Idle) → has_batch (kernel_of old) ≡ true → ⊥).
      stays (d.stays not).1)
      (can_take old.journal.halted (has_batch (kernel_of old)) old.journal.next)

  pub did_extends : (event : Event) (result : Result StepAnswer StepError) → Did device write_grows sync_grows old event result new
      → Extends old.served new.served
  did_extends event.Join result d =
      from_tested (Extends old.served new.served) of_kernel error.Memory old new _ stays
      (λ a h. goes (joins old.served) (alike old.served (joins old.served) refl refl refl) h.1) (join_refusal (kernel_of old)) result d
  did_extends (event.Leave number) result d =
      goes (leaves old.served number) (alike old.served (leaves old.served number) refl refl refl) d.1
  did_extends (event.Arrive number octets) result d =
      from_tested (Extends old.served new.served) of_kernel error.Memory old new _ stays
      (λ a h. goes (arrives old.served number octets.items) (alike old.served (arrives old.served number octets.items) refl refl refl) h.1)
      (arrive_refusal (kernel_of old) number) result d
  did_extends (event.Exec number moment) result d =
      exec_extends number moment (mode_at (kernel_of old) number) (next_of old.served number) result d
  did_extends (event.Admin group) result d =
      from_late (Extends old.served new.served) of_kernel error.Memory old new _ stays
      (λ a h. by_making old.served new.served (Group (group_of group)) h.0 h.2) (early_refusal (kernel_of old))
      (admin_refusal_of (kernel_of old) (Group (group_of group))) result d
  did_extends (event.Expire name number) result d =
      from_late (Extends old.served new.served) of_kernel error.Memory old new _ stays
      (λ a h. by_making old.served new.served (Expire (record { group = name; number = number })) h.0 h.2) (early_refusal (kernel_of old))
      (expire_refusal_of (kernel_of old) (Expire (record { group = name; number = number }))) result d
  did_extends event.Take result d = take_extends result d
  did_extends event.Dev result d = subst (λ (s : TracedView). Extends old.served s) (sym d.served) (same old.served)
  did_extends event.Told result d =
      subst (λ (w : WorldView D). Extends old.served w.served) (sym d.1) (told_extends old.served old.untold)
  did_extends event.Release (Ok a) d =
      goes (releases old.served) (alike old.served (releases old.served) refl refl refl) d.1
  did_extends event.Release (Err e) d = stays d.1
  did_extends (event.ReleaseOf number room) (Ok a) d =
      goes (releases_of old.served number room) (alike old.served (releases_of old.served number room) refl refl refl) d.1
  did_extends (event.ReleaseOf number room) (Err e) d = stays d.1
  did_extends event.Stop result d =
      ⊎_elim
      (λ (clean : (kernel_of old).durable ≡ length (kernel_of old).spool).
      goes (with_kernel old.served (halted_for_good (kernel_of old)))
      (alike old.served (with_kernel old.served (halted_for_good (kernel_of old))) refl refl refl) (d.stops clean).1)
      (λ (more : (kernel_of old).durable ≢ length (kernel_of old).spool). stays (d.goes_on more).1)
      (same_or_not (kernel_of old).durable (length (kernel_of old).spool))

pub went_extends : {D : Type 0} (device : D → Device) (write_grows sync_grows : Bool) (old new : WorldView D) (events : List Event)
    → Went device write_grows sync_grows old events new → Extends old.served new.served
went_extends device write_grows sync_grows old new events (none world) = same world.served
went_extends device write_grows sync_grows old new events (more first second last one others result fine did rest) =
    trans first.served second.served last.served (did_extends device write_grows sync_grows first second one result did)
    (went_extends device write_grows sync_grows second last others rest)
