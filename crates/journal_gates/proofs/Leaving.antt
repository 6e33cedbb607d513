-- What is left of a device whose gates are written back.
use Rattle.std.proofs.Common.{◌≡◌, ◌⊎◌, inl, inr, ⊎_elim, ◌<◌, ◌≤◌, ℕ, suc, ◌+◌, ◌-◌, Bool, IsTrue, List, [], ◌∷◌, length, get_or, refl}
use Rattle.std.proofs.Common.{sym, ◌∙◌, ap, subst, arith, Result, Ok, Err, IsErr}
use Rattle.std.proofs.lemmas.List.{ext_get_or}
use Rattle.std.proofs.lemmas.Bool.{cases_order}
use Rattle.disk.specs.Calls.{Makes, Writes}
use Rattle.disk.specs.Device.{Device, Elapses, IsTornImage}
use Rattle.disk.specs.Image.{Torn, overwritten}
use Rattle.disk.specs.declared.DiskError.{DiskError}
use Rattle.disk.specs.declared.DiskError.TheVariants.{Memory}
use Rattle.disk.proofs.Images.{length-overwritten, overwritten_above, overwritten_below, overwritten_inside}
use Rattle.disk.proofs.Devices.{elapses_then}
use Rattle.model.specs.Volume.{home_size, segment_count}
use Rattle.journal_gates.specs.Gates.{
  IsCount,
  IsGate,
  IsLook,
  IsSeen,
  IsTornAtGates,
  Leaves,
  MayLeaveTorn,
  WritesThem,
  gate_at,
  writes_from,
}
use Rattle.journal_gates.proofs.Looking.{all_within, gate_back, tells_then}

-- ---- images

-- an octet over itself
same_octet : (at octet : ℕ) (image : List ℕ) → at < length image → octet ≡ get_or image at 0 → overwritten at (octet ∷ []) image ≡ image
same_octet at octet image low is =
    ext_get_or 0 (overwritten at (octet ∷ []) image) image (length-overwritten at (octet ∷ []) image fits) each
  where
    fits : at + length (octet ∷ []) ≤ length image
    fits = omega (arith, low)

    each : (k : ℕ) → k < length (overwritten at (octet ∷ []) image) → get_or (overwritten at (octet ∷ []) image) k 0 ≡ get_or image k 0
    each k within = elim (cases_order k at) [
      | inl here ↦
          let none : k - at ≡ 0 = omega (arith, here) in
          overwritten_inside at (octet ∷ []) image fits k 0 (omega (arith, here)) (omega (arith, here))
          ∙ ap (λ (n : ℕ). get_or (octet ∷ []) n 0) none ∙ is ∙ ap (λ (n : ℕ). get_or image n 0) (sym here)
      | inr ordered ↦ elim ordered [
        | inl below ↦ overwritten_below at (octet ∷ []) image fits k 0 below
        | inr above ↦ overwritten_above at (octet ∷ []) image fits k 0 (omega (arith, above))
      ]
    ]

torn_nowhere : (device : Device) (c : List ℕ) → IsTornAtGates device c c
torn_nowhere device c = record { size = refl; others = λ k other. refl; octets = λ k. inl refl }

-- one more gate
torn_once_more : (device : Device) (at : ℕ) (a b c : List ℕ) → IsGate device at → IsTornAtGates device a b → Torn at 1 b c
    → IsTornAtGates device a c
torn_once_more device at a b c gate so_far torn = record {
  size = torn.size ∙ so_far.size;
  others = λ k other. apart k (λ same. other (subst (λ (n : ℕ). IsGate device n) (sym same) gate)) ∙ so_far.others k other;
  octets = λ k. elim (cases_order k at) [
    | inl here ↦ ⊎_elim (λ still. still_is k still) (λ any. inr any) (torn.octets k (omega (arith, here)) (omega (arith, here)))
    | inr ordered ↦ elim ordered [
      | inl below ↦ still_is k (torn.below k below)
      | inr above ↦ still_is k (torn.above k (omega (arith, above)))
    ]
  ];
}
  where
    apart : (k : ℕ) → (k ≡ at → ⊥) → get_or c k 0 ≡ get_or b k 0
    apart k other = elim (cases_order k at) [
      | inl here ↦ absurd (other here)
      | inr ordered ↦ elim ordered [
        | inl below ↦ torn.below k below
        | inr above ↦ torn.above k (omega (arith, above))
      ]
    ]

    still_is : (k : ℕ) → get_or c k 0 ≡ get_or b k 0 → (get_or c k 0 ≡ get_or a k 0) ⊎ (get_or c k 0 < 256)
    still_is k still = ⊎_elim (λ same. inl (still ∙ same)) (λ any. inr (subst (λ (o : ℕ). o < 256) (sym still) any)) (so_far.octets k)

-- ---- devices

-- after reads and good writes
record IsPartly (first now : Device) : Type 0 where
  time : Elapses first now
  failures : now.failures ≡ first.failures
  syncs : now.syncs ≡ first.syncs
  content : IsTrue first.tells → now.content ≡ first.content
  crash : IsTrue first.tells → (c : List ℕ) → now.may_leave c → MayLeaveTorn first c
  since : IsTrue first.tells → (t : ℕ) (c : List ℕ) → t ≤ first.clock → now.left_since t c → first.left_since t c ⊎ MayLeaveTorn first c

looked : (first now : Device) → IsLook first now → IsSeen first now → IsPartly first now
looked first now look seen = record {
  time = look.time;
  failures = seen.failures;
  syncs = look.syncs;
  content = seen.content;
  crash = λ t c left. (c, (look.crash t c left, torn_nowhere first c));
  since = λ t time c before left. inl (look.since t time c before left);
}

now_tells : (first now : Device) → IsPartly first now → IsTrue first.tells → IsTrue now.tells
now_tells first now partly t = subst (λ (b : Bool). IsTrue b) (sym partly.time.tells) t

-- the octet of a gate of the first device, if it tells its octets
record IsItsGate (first : Device) (at octet : ℕ) : Type 0 where
  gate : IsTrue first.tells → IsGate first at
  is : IsTrue first.tells → octet ≡ get_or first.content at 0
  within : IsTrue first.tells → at < length first.content

module _ (first now next : Device) (at octet : ℕ) (its : IsItsGate first at octet) (partly : IsPartly first now) where
  torn_then : IsTrue first.tells → (c : List ℕ) → IsTornImage at 1 now c → MayLeaveTorn first c
  torn_then t c torn =
      let under = partly.crash t torn.0 torn.1 in
      (under.0, (under.1.0, torn_once_more first at under.0 torn.0 c (its.gate t) under.1.1 torn.2))

  since_then : {grows : Bool} (result : Result (Unit {0}) DiskError) → Writes grows at (octet ∷ []) result now next → IsTrue first.tells
      → (t : ℕ) (c : List ℕ) → t ≤ first.clock → next.left_since t c → first.left_since t c ⊎ MayLeaveTorn first c
  since_then result did t time c before left =
      ⊎_elim (λ earlier. partly.since t time c before earlier) (λ torn. inr (torn_then t c torn))
      (did.since (now_tells first now partly t) time c (omega (arith, before, partly.time.later)) left)

  one_more_write : {grows : Bool} → Writes grows at (octet ∷ []) (Ok tt) now next → IsPartly first next
  one_more_write did = record {
    time = elapses_then first now next partly.time did.time;
    failures = did.cause.ok ∙ partly.failures;
    syncs = did.call.syncs ∙ partly.syncs;
    content = λ t.
        did.content (now_tells first now partly t)
        ∙ ap (λ (x : List ℕ). overwritten at (octet ∷ []) x) (partly.content t)
        ∙ same_octet at octet first.content (its.within t) (its.is t);
    crash = λ t c left. torn_then t c (did.crash (now_tells first now partly t) c left);
    since = since_then (Ok tt) did;
  }

  refused_write : {grows : Bool} (e : DiskError) → Writes grows at (octet ∷ []) (Err e) now next → Leaves (Err e) first next
  refused_write e did = record {
    content = λ t. tt;
    untaken = λ t is. (did.refused is).content (now_tells first now partly t) ∙ partly.content t;
    crash = λ t c left. torn_then t c (did.crash (now_tells first now partly t) c left);
    since = since_then (Err e) did;
    time = elapses_then first now next partly.time did.time;
    syncs = syncs_same e did;
    cause = record { ok = tt; fault = λ is. λ same. did.cause.fault is (same ∙ sym partly.failures) };
    uncounted = λ is. (did.refused is).failures ∙ partly.failures;
  }
    where
      syncs_same : {grows : Bool} (e : DiskError) → Writes grows at (octet ∷ []) (Err e) now next → next.syncs ≡ first.syncs
      syncs_same DiskError.Fault did = (did.call refl).syncs ∙ partly.syncs
      syncs_same DiskError.Memory did = (did.refused refl).syncs ∙ partly.syncs

all_written : (first now : Device) → IsPartly first now → Leaves (Ok tt) first now
all_written first now partly = record {
  content = partly.content;
  untaken = λ t. tt;
  crash = partly.crash;
  since = partly.since;
  time = partly.time;
  syncs = partly.syncs;
  cause = record { ok = partly.failures; fault = tt };
  uncounted = tt;
}

-- before the first write
pub unwritten : (e : DiskError) (first now : Device) → IsLook first now → (e ≡ DiskError.Fault) × (now.failures ≡ first.failures → ⊥)
    → Leaves (Err e) first now
unwritten e first now look fault = record {
  content = λ t. tt;
  untaken = λ t is. absurd (apart e fault.0 is);
  crash = λ t c left. (c, (look.crash t c left, torn_nowhere first c));
  since = λ t time c before left. inl (look.since t time c before left);
  time = look.time;
  syncs = look.syncs;
  cause = record { ok = tt; fault = λ is. fault.1 };
  uncounted = λ is. absurd (apart e fault.0 is);
}
  where
    apart : (e : DiskError) → e ≡ DiskError.Fault → e ≡ Memory → ⊥
    apart e is other = cc

-- before the first call
pub unasked : (d : Device) → Leaves (Err Memory) d d
unasked d = record {
  content = λ t. tt;
  untaken = λ t is. refl;
  crash = λ t c left. (c, (left, torn_nowhere d c));
  since = λ t time c before left. inl left;
  time = record { size = refl; tells = refl; later = omega arith };
  syncs = refl;
  cause = record { ok = tt; fault = λ is. absurd (apart is) };
  uncounted = λ is. refl;
}
  where
    apart : Memory ≡ DiskError.Fault → ⊥
    apart is = cc

-- after reads that were good
module _ (a b c : Device) (look : IsLook a b) (seen : IsSeen a b) where
  torn_back : IsTrue a.tells → (x : List ℕ) → MayLeaveTorn b x → MayLeaveTorn a x
  torn_back t x torn = (
    torn.0,
    (
      look.crash t torn.0 torn.1.0,
      record {
        size = torn.1.1.size;
        others = λ k other. torn.1.1.others k (λ gate. other (gate_back a b look seen t k gate));
        octets = torn.1.1.octets;
      },
    ),
  )

  crash_then : (result : Result (Unit {0}) DiskError) → Leaves result b c → IsTrue a.tells → (x : List ℕ) → c.may_leave x → MayLeaveTorn a x
  crash_then result left t x leaves = torn_back t x (left.crash (tells_then a b look t) x leaves)

  since_back : (result : Result (Unit {0}) DiskError) → Leaves result b c → IsTrue a.tells → (time : ℕ) (x : List ℕ) → time ≤ a.clock
      → c.left_since time x → a.left_since time x ⊎ MayLeaveTorn a x
  since_back result left t time x before leaves =
      ⊎_elim (λ earlier. inl (look.since t time x before earlier)) (λ torn. inr (torn_back t x torn))
      (left.since (tells_then a b look t) time x (omega (arith, before, look.time.later)) leaves)

  pub leaves_then : (result : Result (Unit {0}) DiskError) → Leaves result b c → Leaves result a c
  leaves_then (Ok x) left = record {
    content = λ t. left.content (tells_then a b look t) ∙ seen.content t;
    untaken = λ t. tt;
    crash = crash_then (Ok x) left;
    since = since_back (Ok x) left;
    time = elapses_then a b c look.time left.time;
    syncs = left.syncs ∙ look.syncs;
    cause = record { ok = left.cause.ok ∙ seen.failures; fault = tt };
    uncounted = tt;
  }
  leaves_then (Err e) left = record {
    content = λ t. tt;
    untaken = λ t is. left.untaken (tells_then a b look t) is ∙ seen.content t;
    crash = crash_then (Err e) left;
    since = since_back (Err e) left;
    time = elapses_then a b c look.time left.time;
    syncs = left.syncs ∙ look.syncs;
    cause = record { ok = tt; fault = λ is. λ same. left.cause.fault is (same ∙ sym seen.failures) };
    uncounted = λ is. left.uncounted is ∙ seen.failures;
  }

module _ (D : Type 0) (device : D → Device) (write_grows sync_grows : Bool)
    (sized : (d : D) → IsTrue (device d).tells → length (device d).content ≡ (device d).size) where
  go : (first : D) (octets : List ℕ) (s : ℕ) (result : Result (Unit {0}) DiskError) (now new : D)
      → ((k : ℕ) → k < length octets → IsItsGate (device first) (gate_at (s + k)) (get_or octets k 0))
      → IsPartly (device first) (device now) → Makes device write_grows sync_grows (writes_from s octets) result now new
      → Leaves result (device first) (device new)
  go first [] s result now new its partly made =
      subst (λ (d : D). Leaves result (device first) (device d)) (sym made.1)
      (subst (λ (r : Result (Unit {0}) DiskError). Leaves r (device first) (device now)) (sym made.0)
      (all_written (device first) (device now) partly))
  go first (octet ∷ octets) s result now new its partly (inl did) =
      go first octets (s + 1) result did.0 new
      (λ k low. let place : s + suc k ≡ s + 1 + k = omega arith in
      subst (λ (n : ℕ). IsItsGate (device first) (gate_at n) (get_or octets k 0)) place (its (suc k) (omega (arith, low))))
      (one_more_write (device first) (device now) (device did.0) (gate_at s) octet (here s octet octets its) partly did.1.0) did.1.1
    where
      here : (s octet : ℕ) (octets : List ℕ)
          → ((k : ℕ) → k < length (octet ∷ octets) → IsItsGate (device first) (gate_at (s + k)) (get_or (octet ∷ octets) k 0))
          → IsItsGate (device first) (gate_at s) octet
      here s octet octets its = let none : s + 0 ≡ s = omega arith in
          subst (λ (n : ℕ). IsItsGate (device first) (gate_at n) octet) none (its 0 (omega arith))
  go first (octet ∷ octets) s (Ok x) now new its partly (inr refused) = absurd (no_err x refused.0)
    where
      no_err : (x : Unit {0}) → IsErr {T = Unit {0}} {E = DiskError} (Ok x) → ⊥
      no_err x is = cc
  go first (octet ∷ octets) s (Err e) now new its partly (inr refused) =
      refused_write (device first) (device now) (device new) (gate_at s) octet
      (let none : s + 0 ≡ s = omega arith in
      subst (λ (n : ℕ). IsItsGate (device first) (gate_at n) octet) none (its 0 (omega arith))) partly e refused.1

  -- what any run of the calls leaves
  pub leaves : (result : Result (Unit {0}) DiskError) (first last : D) → WritesThem device write_grows sync_grows result first last
      → Leaves result (device first) (device last)
  leaves result first last them =
      go first them.octets 0 result them.read last its (looked (device first) (device them.read) them.look them.seen) them.written
    where
      is_gate : (k : ℕ) → k < length them.octets → IsCount (length them.octets) (device first) → IsGate (device first) (gate_at k)
      is_gate k low (inl many) = (many.0, (k, (omega (arith, low, many.1), refl)))
      is_gate k low (inr none) = absurd (omega (arith, low, none.1))

      inside : IsTrue (device first).tells → (k : ℕ) → IsGate (device first) (gate_at k) → gate_at k < length (device first).content
      inside t k gate =
          let size = sized first t in
          let within = all_within (segment_count (device first).content) (home_size (device first).content)
          (device first).size gate.0.low gate.0.exactly gate.1.0 gate.1.1.0 in
          let same = gate.1.1.1 in
          omega (arith, size, within, same)

      its_own : (k : ℕ) → k < length them.octets → IsItsGate (device first) (gate_at k) (get_or them.octets k 0)
      its_own k low = record {
        gate = λ t. is_gate k low (them.count t);
        is = λ t. them.gates t k low;
        within = λ t. inside t k (is_gate k low (them.count t));
      }

      its : (k : ℕ) → k < length them.octets → IsItsGate (device first) (gate_at (0 + k)) (get_or them.octets k 0)
      its k low = let same : k ≡ 0 + k = omega arith in
          subst (λ (n : ℕ). IsItsGate (device first) (gate_at n) (get_or them.octets k 0)) same (its_own k low)
