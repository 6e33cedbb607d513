-- What the calls of a sync leave of the device, and what a crash at each moment of them leaves.
use Rattle.std.proofs.Common.{◌≡◌, ◌⊎◌, inl, inr, ⊎_elim, ◌<◌, ◌≤◌, ℕ, ◌+◌, ◌-◌, ◌||◌, Bool, IsTrue, List, [], ◌∷◌, ◌++◌, length, get_or}
use Rattle.std.proofs.Common.{Option, Some, None, refl, sym, ◌∙◌, ap, subst, arith, Result, Ok, Err, IsErr, OnOk, IfErr}
use Rattle.disk.specs.Calls.{Call, Makes, Syncs, Writes}
use Rattle.disk.specs.Device.{Device, Elapses, HasCause, IsTornImage, LeavesOnly}
use Rattle.disk.specs.Image.{Torn}
use Rattle.disk.specs.declared.DiskError.{DiskError}
use Rattle.disk.specs.declared.DiskError.TheVariants.{Memory}
use Rattle.disk.proofs.Devices.{elapses_then}
use Rattle.std.proofs.lemmas.Bool.{or_left, or_right}
use Rattle.disk_cache.specs.Collected.{IsOver, MayBe, MayLeave, shown}
use Rattle.disk_cache.specs.Runs.{Run, writes_of}
use Rattle.disk_cache.proofs.RunLaws.{AreParts, IsPart}
use Rattle.disk_cache.proofs.Showing.{place_cases, shown_again}
use Rattle.disk_cache.specs.Over.{over_same}
use Rattle.disk_cache.proofs.Written.{all_written}

maybe_then : (c : Option ℕ) (first mid last : ℕ) → MayBe c first mid → MayBe c mid last → MayBe c first last
maybe_then None first mid last is next = next ∙ is
maybe_then (Some o) first mid last is (inl same) = subst (λ (x : ℕ). MayBe (Some o) first x) (sym same) is
maybe_then (Some o) first mid last is (inr other) = inr other

-- over an image over an image
pub over_then : (cs : List (Option ℕ)) (first mid last : List ℕ) → IsOver cs first mid → IsOver cs mid last → IsOver cs first last
over_then cs first mid last is next = record {
  size = next.size ∙ is.size;
  octets = λ k. maybe_then (get_or cs k None) (get_or first k 0) (get_or mid k 0) (get_or last k 0) (is.octets k) (next.octets k);
}

-- a torn write of collected octets
torn_over : (cs : List (Option ℕ)) (at : ℕ) (octets mid last : List ℕ)
    → ((i : ℕ) → i < length octets → get_or cs (at + i) None ≡ Some (get_or octets i 0)) → Torn at (length octets) mid last
    → IsOver cs mid last
torn_over cs at octets mid last each torn = record {
  size = torn.size;
  octets = λ k. octet k (place_cases at (length octets) k);
}
  where
    same : (k : ℕ) → get_or last k 0 ≡ get_or mid k 0 → MayBe (get_or cs k None) (get_or mid k 0) (get_or last k 0)
    same k is = subst (λ (o : ℕ). MayBe (get_or cs k None) (get_or mid k 0) o) (sym is) ((over_same cs mid).octets k)

    octet : (k : ℕ) → ((k < at) ⊎ (at + length octets ≤ k)) ⊎ ((at ≤ k) × (k < at + length octets))
        → MayBe (get_or cs k None) (get_or mid k 0) (get_or last k 0)
    octet k (inl (inl below)) = same k (torn.below k below)
    octet k (inl (inr above)) = same k (torn.above k above)
    octet k (inr inside) =
        let place : at + (k - at) ≡ k = omega (arith, inside.0) in
        let is : get_or cs k None ≡ Some (get_or octets (k - at) 0) = ap (λ (j : ℕ). get_or cs j None) (sym place)
        ∙ each (k - at) (omega (arith, inside.0, inside.1)) in
        ⊎_elim (λ still. same k still) (λ any. subst (λ (c : Option ℕ). MayBe c (get_or mid k 0) (get_or last k 0)) (sym is)
        (inr (inr any))) (torn.octets k inside.0 inside.1)

module _ (cs : List (Option ℕ)) where
  -- after some of the writes, each of them good
  pub record IsPartly (first now : Device) : Type 0 where
    pub time : Elapses first now
    pub failures : now.failures ≡ first.failures
    pub content : IsTrue first.tells → shown cs now.content ≡ shown cs first.content
    pub crash : IsTrue first.tells → (c : List ℕ) → now.may_leave c → MayLeave first cs c
    pub since : IsTrue first.tells → (t : ℕ) (c : List ℕ) → t ≤ first.clock → now.left_since t c
        → first.left_since t c ⊎ MayLeave first cs c

  -- after them all, or after one that was refused
  pub record IsGiven (grows : Bool) (result : Result (Unit {0}) DiskError) (first new : Device) : Type 0 where
    pub time : Elapses first new
    pub cause : HasCause result first new
    pub content : IsTrue first.tells → OnOk result (shown cs new.content ≡ shown cs first.content)
    pub refused : IsTrue first.tells → IfErr result (λ e. e ≡ Memory → shown cs new.content ≡ shown cs first.content)
    pub uncounted : IfErr result (λ e. e ≡ Memory → new.failures ≡ first.failures)
    pub memory : IfErr result (λ e. e ≡ Memory → IsTrue grows)
    pub crash : IsTrue first.tells → (c : List ℕ) → new.may_leave c → MayLeave first cs c
    pub since : IsTrue first.tells → (t : ℕ) (c : List ℕ) → t ≤ first.clock → new.left_since t c
        → first.left_since t c ⊎ MayLeave first cs c

  pub none_yet : (d : Device) → IsPartly d d
  none_yet d = record {
    time = record { size = refl; tells = refl; later = omega arith };
    failures = refl;
    content = λ t. refl;
    crash = λ t c left. (c, (left, over_same cs c));
    since = λ t time c before left. inl left;
  }

  now_tells : (first now : Device) → IsPartly first now → IsTrue first.tells → IsTrue now.tells
  now_tells first now partly t = subst (λ (b : Bool). IsTrue b) (sym partly.time.tells) t

  -- an image over one that might have been left
  over_partly : (first now : Device) → IsPartly first now → IsTrue first.tells → (mid c : List ℕ) → now.may_leave mid → IsOver cs mid c
      → MayLeave first cs c
  over_partly first now partly t mid c left over =
      let under = partly.crash t mid left in
      (under.0, (under.1.0, over_then cs under.0 mid c under.1.1 over))

  torn_partly : (first now : Device) (at : ℕ) (octets : List ℕ)
      → ((i : ℕ) → i < length octets → get_or cs (at + i) None ≡ Some (get_or octets i 0)) → IsPartly first now → IsTrue first.tells
      → (c : List ℕ) → IsTornImage at (length octets) now c → MayLeave first cs c
  torn_partly first now at octets each partly t c torn =
      over_partly first now partly t torn.0 c torn.1 (torn_over cs at octets torn.0 c each torn.2)

  since_write : (grows : Bool) (first now next : Device) (at : ℕ) (octets : List ℕ) (result : Result (Unit {0}) DiskError)
      → ((i : ℕ) → i < length octets → get_or cs (at + i) None ≡ Some (get_or octets i 0)) → IsPartly first now
      → Writes grows at octets result now next
      → IsTrue first.tells → (t : ℕ) (c : List ℕ) → t ≤ first.clock → next.left_since t c → first.left_since t c ⊎ MayLeave first cs c
  since_write grows first now next at octets result each partly did t time c before left =
      ⊎_elim (λ earlier. partly.since t time c before earlier) (λ torn. inr (torn_partly first now at octets each partly t c torn))
      (did.since (now_tells first now partly t) time c (omega (arith, before, partly.time.later)) left)

  since_sync : (grows : Bool) (first now next : Device) (result : Result (Unit {0}) DiskError) → IsPartly first now
      → Syncs grows result now next
      → IsTrue first.tells → (t : ℕ) (c : List ℕ) → t ≤ first.clock → next.left_since t c → first.left_since t c ⊎ MayLeave first cs c
  since_sync grows first now next result partly did t time c before left =
      partly.since t time c before (did.since (now_tells first now partly t) time c (omega (arith, before, partly.time.later)) left)

  -- one more good write
  one_more_run : (grows : Bool) (first now next : Device) (run : Run) → IsPart cs 0 run
      → (IsTrue now.tells → run.at + length run.octets ≤ length now.content) → IsPartly first now
      → Writes grows run.at run.octets (Ok tt) now next → IsPartly first next
  one_more_run grows first now next run part fits partly did = record {
    time = elapses_then first now next partly.time did.time;
    failures = did.cause.ok ∙ partly.failures;
    content = λ t.
        let told = now_tells first now partly t in
        ap (λ (l : List ℕ). shown cs l) (did.content told) ∙ shown_again cs now.content run.octets run.at (fits told) each
        ∙ partly.content t;
    crash = λ t c left. torn_partly first now run.at run.octets each partly t c (did.crash (now_tells first now partly t) c left);
    since = since_write grows first now next run.at run.octets (Ok tt) each partly did;
  }
    where
      each : (i : ℕ) → i < length run.octets → get_or cs (run.at + i) None ≡ Some (get_or run.octets i 0)
      each i within =
          let place : run.at + i ≡ run.at - 0 + i = omega arith in
          ap (λ (j : ℕ). get_or cs j None) place ∙ part.each i within

  refused_cause : (e : DiskError) (first now next : Device) → now.failures ≡ first.failures → HasCause {T = Unit {0}} (Err e) now next
      → HasCause {T = Unit {0}} (Err e) first next
  refused_cause e first now next same cause = record { ok = tt; fault = λ is. λ f. cause.fault is (f ∙ sym same) }

  -- a write that was refused
  refused_run : (write_grows sync_grows : Bool) (e : DiskError) (first now next : Device) (run : Run) → IsPart cs 0 run
      → IsPartly first now → Writes write_grows run.at run.octets (Err e) now next
      → IsGiven (write_grows || sync_grows) (Err e) first next
  refused_run write_grows sync_grows e first now next run part partly did = record {
    time = elapses_then first now next partly.time did.time;
    cause = refused_cause e first now next partly.failures did.cause;
    content = λ t. tt;
    refused = λ t is. ap (λ (l : List ℕ). shown cs l) ((did.refused is).content (now_tells first now partly t)) ∙ partly.content t;
    uncounted = λ is. (did.refused is).failures ∙ partly.failures;
    memory = λ is. or_left write_grows sync_grows (did.memory is);
    crash = λ t c left. torn_partly first now run.at run.octets each partly t c (did.crash (now_tells first now partly t) c left);
    since = since_write write_grows first now next run.at run.octets (Err e) each partly did;
  }
    where
      each : (i : ℕ) → i < length run.octets → get_or cs (run.at + i) None ≡ Some (get_or run.octets i 0)
      each i within =
          let place : run.at + i ≡ run.at - 0 + i = omega arith in
          ap (λ (j : ℕ). get_or cs j None) place ∙ part.each i within

  -- the sync at the end, good or refused
  synced : (write_grows sync_grows : Bool) (result : Result (Unit {0}) DiskError) (first now next : Device) → IsPartly first now
      → Syncs sync_grows result now next → IsGiven (write_grows || sync_grows) result first next
  synced write_grows sync_grows (Ok x) first now next partly did = record {
    time = elapses_then first now next partly.time did.time;
    cause = record { ok = did.cause.ok ∙ partly.failures; fault = tt };
    content = λ t. ap (λ (l : List ℕ). shown cs l) (did.content (now_tells first now partly t)) ∙ partly.content t;
    refused = λ t. tt;
    uncounted = tt;
    memory = tt;
    crash = λ t c left. partly.crash t c (did.crash (now_tells first now partly t) c left);
    since = since_sync sync_grows first now next (Ok x) partly did;
  }
  synced write_grows sync_grows (Err e) first now next partly did = record {
    time = elapses_then first now next partly.time did.time;
    cause = refused_cause e first now next partly.failures did.cause;
    content = λ t. tt;
    refused = λ t is. ap (λ (l : List ℕ). shown cs l) ((did.refused is).content (now_tells first now partly t)) ∙ partly.content t;
    uncounted = λ is. (did.refused is).failures ∙ partly.failures;
    memory = λ is. or_right write_grows sync_grows (did.memory is);
    crash = λ t c left. partly.crash t c (did.crash (now_tells first now partly t) c left);
    since = since_sync sync_grows first now next (Err e) partly did;
  }

module _ (D : Type 0) (device : D → Device) (write_grows sync_grows : Bool)
    (sized : (d : D) → IsTrue (device d).tells → length (device d).content ≡ (device d).size) where
  pub given : (cs : List (Option ℕ)) (first : D) → length cs ≤ (device first).size
      → (runs : List Run) (result : Result (Unit {0}) DiskError) (now new : D) → AreParts cs 0 runs
      → IsPartly cs (device first) (device now) → Makes device write_grows sync_grows (writes_of runs ++ Call.Sync ∷ []) result now new
      → IsGiven cs (write_grows || sync_grows) result (device first) (device new)
  given cs first few [] result now new parts partly (inl did) =
      subst (λ (d : D). IsGiven cs (write_grows || sync_grows) result (device first) (device d)) (sym did.1.1.1)
      (subst (λ (r : Result (Unit {0}) DiskError). IsGiven cs (write_grows || sync_grows) r (device first) (device did.0)) (sym did.1.1.0)
      (synced cs write_grows sync_grows (Ok tt) (device first) (device now) (device did.0) partly did.1.0))
  given cs first few [] result now new parts partly (inr refused) =
      synced cs write_grows sync_grows result (device first) (device now) (device new) partly refused.1
  given cs first few (run ∷ runs) result now new parts partly (inl did) =
      given cs first few runs result did.0 new parts.1
      (one_more_run cs write_grows (device first) (device now) (device did.0) run parts.0 fits partly did.1.0) did.1.1
    where
      fits : IsTrue (device now).tells → run.at + length run.octets ≤ length (device now).content
      fits t =
          let size = sized now t in
          let high = parts.0.high in
          omega (arith, size, high, few, partly.time.size)
  given cs first few (run ∷ runs) (Ok x) now new parts partly (inr refused) = absurd (no_err x refused.0)
    where
      no_err : (x : Unit {0}) → IsErr {T = Unit {0}} {E = DiskError} (Ok x) → ⊥
      no_err x is = cc
  given cs first few (run ∷ runs) (Err e) now new parts partly (inr refused) =
      refused_run cs write_grows sync_grows e (device first) (device now) (device new) run parts.0 partly refused.1

  -- where none was refused
  pub record AreDurable (image : List ℕ) (new : D) : Type 0 where
    pub content : (device new).content ≡ image
    pub only : LeavesOnly (device new) image

  pub durable : (runs : List Run) (now new : D) → Makes device write_grows sync_grows (writes_of runs ++ Call.Sync ∷ []) (Ok tt) now new
      → IsTrue (device now).tells → AreDurable (all_written runs (device now).content) new
  durable [] now new (inl did) t =
      subst (λ (d : D). AreDurable (device now).content d) (sym did.1.1.1)
      (record { content = did.1.0.content t; only = did.1.0.durable t })
  durable [] now new (inr refused) t = absurd (no_err refused.0)
    where
      no_err : IsErr {T = Unit {0}} {E = DiskError} (Ok tt) → ⊥
      no_err is = cc
  durable (run ∷ runs) now new (inl did) t =
      let told : IsTrue (device did.0).tells = subst (λ (b : Bool). IsTrue b) (sym did.1.0.time.tells) t in
      subst (λ (image : List ℕ). AreDurable (all_written runs image) new) (did.1.0.content t) (durable runs did.0 new did.1.1 told)
  durable (run ∷ runs) now new (inr refused) t = absurd (no_err refused.0)
    where
      no_err : IsErr {T = Unit {0}} {E = DiskError} (Ok tt) → ⊥
      no_err is = cc
