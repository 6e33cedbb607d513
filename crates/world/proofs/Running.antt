-- Events done one after another.
use Rattle.std.proofs.Common.{◌≡◌, ◌≢◌, inl, inr, ⊎_elim, ℕ, ◌+◌, ◌-◌, ◌<◌, ◌≤◌, length, Bool, true, false, List, [], ◌∷◌, ◌++◌, take}
use Rattle.std.proofs.Common.{drop, zero, suc}
use Rattle.std.proofs.Common.{Some, refl, ap, sym, ◌∙◌, subst, arith}
use Rattle.std.proofs.lemmas.List.{length-drop}
use Rattle.std.specs.Prelude.{IsTrue, Result, Ok, Err, slice_get}
use Rattle.disk.specs.Device.{Device}
use Rattle.model.specs.Stream.{Octets}
use Rattle.model.proofs.Joined.{front_more}
use Rattle.world.specs.Events.{Did, Passed, Ran, Went, for_memory, more, none}
use Rattle.world.specs.Images.{EachNow, EachSince, Fits, LeftFits}
use Rattle.world.specs.Tied.{IsWorld}
use Rattle.world.specs.World.{WorldView}
use Rattle.world.specs.declared.events.StepAnswer.{StepAnswer}
use Rattle.world.specs.declared.events.Event.{Event}
use Rattle.world.specs.declared.events.StepError.{StepError}
use Rattle.world.specs.declared.events.StepError.TheVariants as error
use Rattle.world.proofs.Fitting.{now_fits}
use Rattle.world.proofs.Since.{step_goes_on}

-- an element behind the first j
get_behind : {X : Type 0} (j : ℕ) (xs : List X) (k : ℕ) → slice_get (drop j xs) k ≡ slice_get xs (j + k)
get_behind zero xs k = ap (slice_get xs) (omega arith)
get_behind (suc j) [] k = refl
get_behind (suc j) (x ∷ xs) k = let e : suc (j + k) ≡ suc j + k = omega arith in
    get_behind j xs k ∙ ap (slice_get (x ∷ xs)) e

at_behind : {X : Type 0} (xs : List X) (i j : ℕ) (x : X) → j ≤ i → slice_get xs i ≡ Some x → slice_get (drop j xs) (i - j) ≡ Some x
at_behind xs i j x le at = let e : j + (i - j) ≡ i = omega (arith, le) in get_behind j xs (i - j) ∙ (ap (slice_get xs) e ∙ at)

module _ {D : Type 0} (device : D → Device) (write_grows sync_grows : Bool) where
  went_more : (old middle new : WorldView D) (events : List Event) (event : Event) (result : Result StepAnswer StepError)
      → Went device write_grows sync_grows old events middle → result ≢ Err error.Memory
      → Did device write_grows sync_grows middle event result new → Went device write_grows sync_grows old (events ++ event ∷ []) new
  went_more old middle new events event result (none world) fine did = more world new new event [] result fine did (none new)
  went_more old middle new events event result (more first second last one others r ok d rest) fine did =
      more first second new one (others ++ event ∷ []) r ok d (went_more second last new others event result rest fine did)

  -- on the way to what stands after i events
  pub record OnTheWay (old now : WorldView D) (events : List Event) (i j : ℕ) (middle : WorldView D) : Type 0 where
    pub within : j ≤ i
    pub before : Went device write_grows sync_grows old (take j events) middle
    pub after : Went device write_grows sync_grows middle (take (i - j) (drop j events)) now

  abbrev pub FitsOne : WorldView D → WorldView D → List Event → ℕ → Octets → Type 0
  FitsOne old now events i image = (j : ℕ) × (middle : WorldView D) × OnTheWay old now events i j middle × Fits middle image

  -- what stands now is on the way to itself
  here : (old now : WorldView D) (events : List Event) (i : ℕ) → Went device write_grows sync_grows old (take i events) now
      → OnTheWay old now events i i now
  here old now events i went = let e : 0 ≡ i - i = omega arith in
      record {
        within = omega arith;
        before = went;
        after = subst (λ k. Went device write_grows sync_grows now (take k (drop i events)) now) e (none now);
      }

  -- one event more
  goes_on : (old now new : WorldView D) (events : List Event) (i j : ℕ) (middle : WorldView D) (event : Event)
      (result : Result StepAnswer StepError) → OnTheWay old now events i j middle → slice_get events i ≡ Some event
      → result ≢ Err error.Memory → Did device write_grows sync_grows now event result new → OnTheWay old new events (i + 1) j middle
  goes_on old now new events i j middle event result h at fine did =
      let e : (i - j) + 1 ≡ (i + 1) - j = omega (arith, h.within) in
      let longer = front_more (drop j events) (i - j) event (at_behind events i j event h.within at) in
      record {
        within = omega (arith, h.within);
        before = h.before;
        after = subst (λ k. Went device write_grows sync_grows middle (take k (drop j events)) new) e
            (subst (λ es. Went device write_grows sync_grows middle es new) (sym longer)
            (went_more middle now new (take (i - j) (drop j events)) event result h.after fine did));
      }

  -- the first i events are done
  pub record Running (old now : WorldView D) (events : List Event) (i : ℕ) : Type 0 where
    pub went : Went device write_grows sync_grows old (take i events) now
    pub world : IsWorld device now
    pub now_fits : EachNow (device now.journal.disk) (Fits now)
    pub tells : (device now.journal.disk).tells ≡ (device old.journal.disk).tells
    pub later : (device old.journal.disk).clock ≤ (device now.journal.disk).clock
    pub during : EachSince (device old.journal.disk) (device now.journal.disk) (FitsOne old now events i)
    pub since : LeftFits (device old.journal.disk) (device now.journal.disk) (FitsOne old now events i)

  pub running_none : ((d : D) (image : Octets) → IsTrue (device d).tells → (device d).left_since (device d).clock image
      → (device d).may_leave image) → (old : WorldView D) (events : List Event) → IsWorld device old → Running old old events 0
  running_none only_now old events h =
      record {
        went = none old;
        world = h;
        now_fits = now_fits device old h;
        tells = refl;
        later = omega arith;
        during = λ tells image left. (
          0,
          old,
          here old old events 0 (none old),
          now_fits device old h tells image (only_now old.journal.disk image tells left),
        );
        since = λ tells t image le left. inl left;
      }

  pub running_more : (old now new : WorldView D) (events : List Event) (i : ℕ) (event : Event) (result : Result StepAnswer StepError)
      → Running old now events i → slice_get events i ≡ Some event → result ≢ Err error.Memory
      → Did device write_grows sync_grows now event result new → IsWorld device new
      → LeftFits (device now.journal.disk) (device new.journal.disk) (Fits now) → Running old new events (i + 1)
  running_more old now new events i event result h at fine did world since =
      let on = step_goes_on device write_grows sync_grows now new event result world did in
      record {
        went = subst (λ es. Went device write_grows sync_grows old es new) (sym (front_more events i event at))
            (went_more old now new (take i events) event result h.went fine did);
        world = world;
        now_fits = now_fits device new world;
        tells = on.0 ∙ h.tells;
        later = omega (arith, h.later, on.1);
        during = λ tells image left. ⊎_elim
            (λ (was : (device now.journal.disk).left_since (device old.journal.disk).clock image). later image (h.during tells image was))
            (λ (fits : Fits now image). later image (i, now, here old now events i h.went, fits))
            (since (subst IsTrue (sym h.tells) tells) (device old.journal.disk).clock image h.later left);
        since = λ tells t image le left. ⊎_elim
            (λ (was : (device now.journal.disk).left_since t image). ⊎_elim
            (λ (before : (device old.journal.disk).left_since t image). inl before)
            (λ (d : FitsOne old now events i image). inr (later image d))
            (h.since tells t image le was))
            (λ (fits : Fits now image). inr (later image (i, now, here old now events i h.went, fits)))
            (since (subst IsTrue (sym h.tells) tells) t image (omega (arith, le, h.later)) left);
      }
    where
      later : (image : Octets) → FitsOne old now events i image → FitsOne old new events (i + 1) image
      later image d = (d.0, d.1, goes_on old now new events i d.0 d.1 event result d.2 at fine did, d.3)

  -- all events are done
  passed_all : (old now : WorldView D) (events : List Event) (i j : ℕ) (middle : WorldView D) → length events ≤ i
      → OnTheWay old now events i j middle → Passed device write_grows sync_grows old events i now j middle
  passed_all old now events i j middle all h =
      record {
        within = h.within;
        before = h.before;
        after = record {
          middle = now;
          went = h.after;
          ended = λ le. refl;
          stopped = λ left. absurd (omega (arith, all, h.within, left, length-drop j events));
        };
      }

  -- the next event was refused for memory
  passed_before : (old now new : WorldView D) (events : List Event) (i j : ℕ) (middle : WorldView D) (event : Event)
      → OnTheWay old now events i j middle → slice_get events i ≡ Some event → i < length events
      → Did device write_grows sync_grows now event (Err error.Memory) new
      → Passed device write_grows sync_grows old events i new j middle
  passed_before old now new events i j middle event h at within did =
      record {
        within = h.within;
        before = h.before;
        after = record {
          middle = now;
          went = h.after;
          ended = λ all. absurd (omega (arith, all, h.within, within, length-drop j events));
          stopped = λ left. (event, at_behind events i j event h.within at, did);
        };
      }

  -- an image that fits a world that was passed
  abbrev pub PassedOne : WorldView D → WorldView D → List Event → ℕ → Octets → Type 0
  PassedOne old new events n image =
      (j : ℕ) × (middle : WorldView D) × Passed device write_grows sync_grows old events n new j middle × Fits middle image

  pub during_all : (old now : WorldView D) (events : List Event) (i : ℕ) → length events ≤ i → Running old now events i
      → EachSince (device old.journal.disk) (device now.journal.disk) (PassedOne old now events i)
  during_all old now events i all h tells image left =
      let d = h.during tells image left in (d.0, d.1, passed_all old now events i d.0 d.1 all d.2, d.3)

  pub since_all : (old now : WorldView D) (events : List Event) (i : ℕ) → length events ≤ i → Running old now events i
      → LeftFits (device old.journal.disk) (device now.journal.disk) (PassedOne old now events i)
  since_all old now events i all h tells t image early left =
      ⊎_elim (λ (was : (device old.journal.disk).left_since t image). inl was)
      (λ (d : FitsOne old now events i image). inr (d.0, d.1, passed_all old now events i d.0 d.1 all d.2, d.3))
      (h.since tells t image early left)

-- what was done, and what came of it
pub ran_all : {D : Type 0} (device : D → Device) (write_grows sync_grows : Bool) (old now : WorldView D) (events : List Event) (i : ℕ)
    → length events ≤ i → Running device write_grows sync_grows old now events i → Ran device write_grows sync_grows old events i now
ran_all device write_grows sync_grows old now events i all h =
    record { middle = now; went = h.went; ended = λ le. refl; stopped = λ more. absurd (omega (arith, all, more)) }

-- an event that was refused for memory: a crash leaves what fits the world before it
module _ {D : Type 0} (device : D → Device) (write_grows sync_grows : Bool) (old now new : WorldView D) (events : List Event) (i : ℕ)
    (event : Event) (result : Result StepAnswer StepError) (h : Running device write_grows sync_grows old now events i)
    (is : result ≡ Err error.Memory) (did : Did device write_grows sync_grows now event result new) (world : IsWorld device new)
    (left : LeftFits (device now.journal.disk) (device new.journal.disk) (Fits now)) where
  did_memory : Did device write_grows sync_grows now event (Err error.Memory) new
  did_memory = subst (λ r. Did device write_grows sync_grows now event r new) is did

  pub ran_before : slice_get events i ≡ Some event → i < length events → Ran device write_grows sync_grows old events i new
  ran_before at within = record {
    middle = now;
    went = h.went;
    ended = λ all. absurd (omega (arith, all, within));
    stopped = λ more. (event, at, did_memory);
  }

  passed : slice_get events i ≡ Some event → i < length events → (image : Octets)
      → FitsOne device write_grows sync_grows old now events i image → PassedOne device write_grows sync_grows old new events i image
  passed at within image d =
      (d.0, d.1, passed_before device write_grows sync_grows old now new events i d.0 d.1 event d.2 at within did_memory, d.3)

  pub refused_since : slice_get events i ≡ Some event → i < length events
      → LeftFits (device old.journal.disk) (device new.journal.disk) (PassedOne device write_grows sync_grows old new events i)
  refused_since at within tells t image le gone =
      ⊎_elim
      (λ (was : (device now.journal.disk).left_since t image). ⊎_elim
      (λ (before : (device old.journal.disk).left_since t image). inl before)
      (λ (d : FitsOne device write_grows sync_grows old now events i image). inr (passed at within image d))
      (h.since tells t image le was))
      (λ (fits : Fits now image). inr (passed at within image (i, now, here device write_grows sync_grows old now events i h.went, fits)))
      (left (subst IsTrue (sym h.tells) tells) t image (omega (arith, le, h.later)) gone)

  pub refused_during : slice_get events i ≡ Some event → i < length events
      → EachSince (device old.journal.disk) (device new.journal.disk) (PassedOne device write_grows sync_grows old new events i)
  refused_during at within tells image gone =
      ⊎_elim
      (λ (was : (device now.journal.disk).left_since (device old.journal.disk).clock image).
      passed at within image (h.during tells image was))
      (λ (fits : Fits now image). passed at within image (i, now, here device write_grows sync_grows old now events i h.went, fits))
      (left (subst IsTrue (sym h.tells) tells) (device old.journal.disk).clock image h.later gone)

-- whether memory was refused
pub memory_is : (r : Result StepAnswer StepError) → for_memory r ≡ true → r ≡ Err error.Memory
memory_is (Ok a) is = absurd (cc is)
memory_is (Err error.Fault) is = absurd (cc is)
memory_is (Err error.Memory) is = refl
memory_is (Err error.Halted) is = absurd (cc is)
memory_is (Err error.Full) is = absurd (cc is)
memory_is (Err error.TooManySessions) is = absurd (cc is)
memory_is (Err error.LaterDirty) is = absurd (cc is)
memory_is (Err error.LaterOut) is = absurd (cc is)
memory_is (Err error.NoSession) is = absurd (cc is)
memory_is (Err error.Exists) is = absurd (cc is)
memory_is (Err error.NotFound) is = absurd (cc is)

pub memory_not : (r : Result StepAnswer StepError) → for_memory r ≡ false → r ≢ Err error.Memory
memory_not r is e = absurd (let both : true ≡ false = sym (ap for_memory e) ∙ is in cc)
