-- Events that the system makes by itself, one after another.
use Rattle.std.proofs.Common.{◌≡◌, ◌≢◌, inl, inr, ⊎_elim, ℕ, ◌+◌, ◌-◌, ◌≤◌, length, Bool, true, false, List, [], ◌∷◌, ◌++◌, take}
use Rattle.std.proofs.Common.{drop, suc}
use Rattle.std.proofs.Common.{refl, ap, sym, ◌∙◌, subst, arith, length-append, length-drop}
use Rattle.std.proofs.lemmas.List.{drop-append-le, take-append-le, take_all}
use Rattle.std.proofs.lemmas.List.Elements.{All-append, All-cons, All-nil}
use Rattle.std.specs.Prelude.{IsTrue, Result, Ok, Err, slice_get}
use Rattle.disk.specs.Device.{Device}
use Rattle.model.specs.Stream.{Octets}
use Rattle.world.specs.Draining.{FitsPassed, IsInner, RunsInner}
use Rattle.world.specs.Events.{Did, Passed, Ran, Went, for_memory, more, none}
use Rattle.world.specs.Images.{EachSince, Fits, LeftFits}
use Rattle.world.specs.Tied.{IsWorld}
use Rattle.world.specs.World.{WorldView}
use Rattle.world.specs.declared.events.StepAnswer.{StepAnswer}
use Rattle.world.specs.declared.events.Event.{Event}
use Rattle.world.specs.declared.events.StepError.{StepError}
use Rattle.world.specs.declared.events.StepError.TheVariants as error
use Rattle.world.proofs.Fitting.{now_fits}
use Rattle.world.proofs.Running.{memory_is, memory_not}
use Rattle.world.proofs.Since.{step_goes_on}

-- the elements of two lists, one behind the other
take_both : {X : Type 0} (xs ys : List X) (n : ℕ) → take (length xs + n) (xs ++ ys) ≡ xs ++ take n ys
take_both [] ys n = ap (λ (k : ℕ). take k ys) (let e : 0 + n ≡ n = omega arith in e)
take_both {X = X} (x ∷ xs) ys n = let e : suc (length xs) + n ≡ suc (length xs + n) = omega arith in
    ap (λ (k : ℕ). take k (x ∷ (xs ++ ys))) e ∙ ap (λ (zs : List X). x ∷ zs) (take_both xs ys n)

drop_both : {X : Type 0} (xs ys : List X) (n : ℕ) → drop (length xs + n) (xs ++ ys) ≡ drop n ys
drop_both [] ys n = ap (λ (k : ℕ). drop k ys) (let e : 0 + n ≡ n = omega arith in e)
drop_both (x ∷ xs) ys n = let e : suc (length xs) + n ≡ suc (length xs + n) = omega arith in
    ap (λ (k : ℕ). drop k (x ∷ (xs ++ ys))) e ∙ drop_both xs ys n

get_both : {X : Type 0} (xs ys : List X) (n : ℕ) → slice_get (xs ++ ys) (length xs + n) ≡ slice_get ys n
get_both [] ys n = ap (slice_get ys) (let e : 0 + n ≡ n = omega arith in e)
get_both (x ∷ xs) ys n = let e : suc (length xs) + n ≡ suc (length xs + n) = omega arith in
    ap (slice_get (x ∷ (xs ++ ys))) e ∙ get_both xs ys n

module _ {D : Type 0} (device : D → Device) (write_grows sync_grows : Bool) where
  went_both : (old middle new : WorldView D) (first second : List Event) → Went device write_grows sync_grows old first middle
      → Went device write_grows sync_grows middle second new → Went device write_grows sync_grows old (first ++ second) new
  went_both old middle new first second (none world) rest = rest
  went_both old middle new first second (more one two last event others result fine did went) rest =
      more one two new event (others ++ second) result fine did (went_both two last new others second went rest)

  -- a run after events that were all done
  ran_on : (old middle new : WorldView D) (first second : List Event) (n : ℕ) → Went device write_grows sync_grows old first middle
      → Ran device write_grows sync_grows middle second n new
      → Ran device write_grows sync_grows old (first ++ second) (length first + n) new
  ran_on old middle new first second n went ran = record {
    middle = ran.middle;
    went = subst (λ (es : List Event). Went device write_grows sync_grows old es ran.middle) (sym (take_both first second n))
        (went_both old middle ran.middle first (take n second) went ran.went);
    ended = λ all. ran.ended (omega (arith, all, length-append first second));
    stopped = λ left.
        let s = ran.stopped (omega (arith, left, length-append first second)) in
        (s.0, get_both first second n ∙ s.1, s.2);
  }

  -- a run that went through all its events
  went_all : (old new : WorldView D) (events : List Event) (n : ℕ) → n ≡ length events
      → Ran device write_grows sync_grows old events n new → Went device write_grows sync_grows old events new
  went_all old new events n is ran =
      subst (λ (w : WorldView D). Went device write_grows sync_grows old events w) (sym (ran.ended (omega (arith, is))))
      (subst (λ (es : List Event). Went device write_grows sync_grows old es ran.middle) (take_all n events (omega (arith, is))) ran.went)

  -- a world that was passed in the first of two runs, or in the second
  passed_first : (old now new world : WorldView D) (first second : List Event) (m n j : ℕ) → m ≡ length first
      → Passed device write_grows sync_grows old first m now j world → Ran device write_grows sync_grows now second n new
      → Passed device write_grows sync_grows old (first ++ second) (length first + n) new j world
  passed_first old now new world first second m n j is passed ran =
      let within : j ≤ length first = omega (arith, is, passed.within) in
      let rest : m - j ≡ length (drop j first) = omega (arith, is, length-drop j first) in
      let count : length (drop j first) + n ≡ (length first + n) - j = omega (arith, within, length-drop j first) in
      record {
        within = omega (arith, within);
        before = subst (λ (es : List Event). Went device write_grows sync_grows old es world)
            (sym (take-append-le j first second within)) passed.before;
        after = subst (λ (k : ℕ). Ran device write_grows sync_grows world (drop j (first ++ second)) k new) count
            (subst (λ (es : List Event). Ran device write_grows sync_grows world es (length (drop j first) + n) new)
            (sym (drop-append-le j first second within))
            (ran_on world now new (drop j first) second n (went_all world now (drop j first) (m - j) rest passed.after) ran));
      }

  passed_second : (old now new world : WorldView D) (first second : List Event) (n j : ℕ)
      → Went device write_grows sync_grows old first now → Passed device write_grows sync_grows now second n new j world
      → Passed device write_grows sync_grows old (first ++ second) (length first + n) new (length first + j) world
  passed_second old now new world first second n j went passed =
      let count : n - j ≡ (length first + n) - (length first + j) = omega arith in
      record {
        within = omega (arith, passed.within);
        before = subst (λ (es : List Event). Went device write_grows sync_grows old es world) (sym (take_both first second j))
            (went_both old now world first (take j second) went passed.before);
        after = subst (λ (k : ℕ). Ran device write_grows sync_grows world (drop (length first + j) (first ++ second)) k new) count
            (subst (λ (es : List Event). Ran device write_grows sync_grows world es (n - j) new) (sym (drop_both first second j))
            passed.after);
      }

  -- ---- no event

  pub inner_none : {A : Type 0} → ((d : D) (image : Octets) → IsTrue (device d).tells → (device d).left_since (device d).clock image
      → (device d).may_leave image) → (world : WorldView D) (a : A) → IsWorld device world
      → RunsInner device write_grows sync_grows world (Ok a) world
  inner_none {A} only_now world a h = record {
    events = [];
    inner = All-nil IsInner;
    count = 0;
    within = omega arith;
    all = λ fine. refl;
    ran = nothing;
    during = λ tells image left. (
      0,
      world,
      record { within = omega arith; before = none world; after = nothing },
      now_fits device world h tells image (only_now world.journal.disk image tells left),
    );
    since = λ tells t image le left. inl left;
    tells = refl;
    later = omega arith;
  }
    where
      nothing : Ran device write_grows sync_grows world [] 0 world
      nothing = record { middle = world; went = none world; ended = λ le. refl; stopped = λ more. absurd (omega (arith, more)) }

  -- ---- one event

  module _ {A : Type 0} (old new : WorldView D) (event : Event) (result : Result StepAnswer StepError) (answer : Result A StepError)
      (is_inner : IsInner event) (same : answer ≢ Err error.Memory → result ≢ Err error.Memory)
      (did : Did device write_grows sync_grows old event result new) (world : IsWorld device new)
      (during : EachSince (device old.journal.disk) (device new.journal.disk) (Fits old))
      (since : LeftFits (device old.journal.disk) (device new.journal.disk) (Fits old)) where
    inner_by : (n : ℕ) → n ≤ 1 → (answer ≢ Err error.Memory → n ≡ 1) → Ran device write_grows sync_grows old (event ∷ []) n new
        → RunsInner device write_grows sync_grows old answer new
    inner_by n within all ran =
        let on = step_goes_on device write_grows sync_grows old new event result world did in
        record {
          events = event ∷ [];
          inner = All-cons IsInner event [] is_inner (All-nil IsInner);
          count = n;
          within = omega (arith, within);
          all = λ fine. omega (arith, all fine);
          ran = ran;
          during = λ tells image left. first image (during tells image left);
          since = λ tells t image le left. ⊎_elim (λ (was : (device old.journal.disk).left_since t image). inl was)
              (λ (fits : Fits old image). inr (first image fits)) (since tells t image le left);
          tells = on.0;
          later = on.1;
        }
      where
        first : (image : Octets) → Fits old image
            → FitsPassed device write_grows sync_grows old (event ∷ []) n new image
        first image fits =
            let count : n ≡ n - 0 = omega arith in
            let after = subst (λ (k : ℕ). Ran device write_grows sync_grows old (event ∷ []) k new) count ran in
            (0, old, record { within = omega arith; before = none old; after = after }, fits)

    pub inner_one : RunsInner device write_grows sync_grows old answer new
    inner_one = go (for_memory result) refl where
      go : (b : Bool) → for_memory result ≡ b → RunsInner device write_grows sync_grows old answer new
      go false is =
          let fine : result ≢ Err error.Memory = memory_not result is in
          inner_by 1 (omega arith) (λ _. refl) (record {
            middle = new;
            went = more old new new event [] result fine did (none new);
            ended = λ le. refl;
            stopped = λ more. absurd (omega (arith, more));
          })
      go true is =
          let refused : result ≡ Err error.Memory = memory_is result is in
          inner_by 0 (omega arith) (λ fine. absurd (same fine refused)) (record {
            middle = old;
            went = none old;
            ended = λ le. absurd (omega (arith, le));
            stopped = λ more. (
              event,
              refl,
              subst (λ (r : Result StepAnswer StepError). Did device write_grows sync_grows old event r new)
                  refused did,
            );
          })

  -- ---- one after the other

  pub inner_then : {A B : Type 0} (old now new : WorldView D) (a : A) (result : Result B StepError)
      → RunsInner {A = A} device write_grows sync_grows old (Ok a) now → RunsInner device write_grows sync_grows now result new
      → RunsInner device write_grows sync_grows old result new
  inner_then {A} {B} old now new a result first second = record {
    events = first.events ++ second.events;
    inner = All-append IsInner first.events second.events first.inner second.inner;
    count = length first.events + second.count;
    within = omega (arith, second.within, length-append first.events second.events);
    all = λ fine. omega (arith, second.all fine, length-append first.events second.events);
    ran = ran_on old now new first.events second.events second.count went second.ran;
    during = λ tells image left. ⊎_elim
        (λ (was : (device now.journal.disk).left_since (device old.journal.disk).clock image). before image (first.during tells image was))
        (λ (d : FitsPassed device write_grows sync_grows now second.events second.count new image). after image d)
        (second.since (told tells) (device old.journal.disk).clock image first.later left);
    since = λ tells t image le left. ⊎_elim
        (λ (was : (device now.journal.disk).left_since t image). ⊎_elim
        (λ (early : (device old.journal.disk).left_since t image). inl early)
        (λ (d : FitsPassed device write_grows sync_grows old first.events first.count now image). inr (before image d))
        (first.since tells t image le was))
        (λ (d : FitsPassed device write_grows sync_grows now second.events second.count new image). inr (after image d))
        (second.since (told tells) t image (omega (arith, le, first.later)) left);
    tells = second.tells ∙ first.tells;
    later = omega (arith, first.later, second.later);
  }
    where
      whole : first.count ≡ length first.events
      whole = first.all (λ e. absurd (let no : Ok a ≡ Err error.Memory = e in cc))

      went : Went device write_grows sync_grows old first.events now
      went = went_all old now first.events first.count whole first.ran

      told : IsTrue (device old.journal.disk).tells → IsTrue (device now.journal.disk).tells
      told tells = subst IsTrue (sym first.tells) tells

      before : (image : Octets) → FitsPassed device write_grows sync_grows old first.events first.count now image
          → FitsPassed device write_grows sync_grows old (first.events ++ second.events) (length first.events + second.count) new image
      before image d =
          (d.0, d.1, passed_first old now new d.1 first.events second.events first.count second.count d.0 whole d.2 second.ran, d.3)

      after : (image : Octets) → FitsPassed device write_grows sync_grows now second.events second.count new image
          → FitsPassed device write_grows sync_grows old (first.events ++ second.events) (length first.events + second.count) new image
      after image d =
          (length first.events + d.0, d.1, passed_second old now new d.1 first.events second.events second.count d.0 went d.2, d.3)

  -- the answer may be told in another way, if it still says whether memory was refused
  pub inner_as : {A B : Type 0} (old new : WorldView D) (result : Result A StepError) (answer : Result B StepError)
      → (answer ≢ Err error.Memory → result ≢ Err error.Memory) → RunsInner device write_grows sync_grows old result new
      → RunsInner device write_grows sync_grows old answer new
  inner_as {A} {B} old new result answer same h = record {
    events = h.events;
    inner = h.inner;
    count = h.count;
    within = h.within;
    all = λ fine. h.all (same fine);
    ran = h.ran;
    during = h.during;
    since = h.since;
    tells = h.tells;
    later = h.later;
  }
