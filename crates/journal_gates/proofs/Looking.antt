-- Reads that change nothing, one after the other, and what follows them.
use Rattle.std.proofs.Common.{
  ◌≡◌,
  ◌⊎◌,
  inl,
  inr,
  ◌<◌,
  ◌≤◌,
  ℕ,
  ◌+◌,
  ◌-◌,
  ◌*◌,
  Bool,
  false,
  eqb,
  if◌then◌else◌,
  IsTrue,
  List,
  length,
  Result,
  refl,
}
use Rattle.std.proofs.Common.{sym, ◌∙◌, ap, subst, arith}
use Rattle.std.proofs.lemmas.Bool.{cases_eq, eq-eqb, ne_eqb}
use Rattle.disk.specs.Device.{Device}
use Rattle.disk.specs.declared.DiskError.{DiskError}
use Rattle.model.specs.Volume.{IsSuperblock, block, gate_place, home_place, number_at, segment_count}
use Rattle.journal_gates.specs.Gates.{AreGates, AreWithin, HasSegments, IsCount, IsGate, IsLook, IsSeen, WritesBack, gate_at}

pub tells_then : (a b : Device) → IsLook a b → IsTrue a.tells → IsTrue b.tells
tells_then a b look t = subst (λ (x : Bool). IsTrue x) (sym look.time.tells) t

pub no_look : (a : Device) → IsLook a a
no_look a = record {
  time = record { size = refl; tells = refl; later = omega arith };
  writes = refl;
  syncs = refl;
  crash = λ t c left. left;
  since = λ t time c before left. left;
}

pub none_seen : (a : Device) → IsSeen a a
none_seen a = record { content = λ t. refl; failures = refl }

pub look_then : (a b c : Device) → IsLook a b → IsLook b c → IsLook a c
look_then a b c first second = record {
  time = record {
    size = second.time.size ∙ first.time.size;
    tells = second.time.tells ∙ first.time.tells;
    later = omega (arith, first.time.later, second.time.later);
  };
  writes = second.writes ∙ first.writes;
  syncs = second.syncs ∙ first.syncs;
  crash = λ t image left. first.crash t image (second.crash (tells_then a b first t) image left);
  since = λ t time image before left. first.since t time image before
      (second.since (tells_then a b first t) time image (omega (arith, before, first.time.later)) left);
}

pub seen_then : (a b c : Device) → IsLook a b → IsSeen a b → IsSeen b c → IsSeen a c
seen_then a b c look first second = record {
  content = λ t. second.content (tells_then a b look t) ∙ first.content t;
  failures = second.failures ∙ first.failures;
}

-- ---- the places of gates

-- the place that the first three tests leave
abbrev place_if : Bool → Bool → Bool → ℕ → ℕ
place_if first second third other = if first then 148 else (if second then 149 else (if third then 150 else other))

module _ (i : ℕ) where
  abbrev other : ℕ
  other = 4096 * gate_place (i - 3)

  pub gate_of_format_2 : i ≡ 0 → gate_at i ≡ 148
  unfolding gate_at
  gate_of_format_2 is = ap (λ (b : Bool). place_if b (eqb i 1) (eqb i 2) other) (eq-eqb i 0 is)

  pub gate_of_format_3 : i ≡ 1 → gate_at i ≡ 149
  unfolding gate_at
  gate_of_format_3 is =
      ap (λ (b : Bool). place_if b (eqb i 1) (eqb i 2) other) (ne_eqb i 0 (λ none. omega (arith, is, none)))
      ∙ ap (λ (b : Bool). place_if false b (eqb i 2) other) (eq-eqb i 1 is)

  pub gate_of_epoch : i ≡ 2 → gate_at i ≡ 150
  unfolding gate_at
  gate_of_epoch is =
      ap (λ (b : Bool). place_if b (eqb i 1) (eqb i 2) other) (ne_eqb i 0 (λ none. omega (arith, is, none)))
      ∙ ap (λ (b : Bool). place_if false b (eqb i 2) other) (ne_eqb i 1 (λ one. omega (arith, is, one)))
      ∙ ap (λ (b : Bool). place_if false false b other) (eq-eqb i 2 is)

  pub gate_of_segment : 3 ≤ i → gate_at i ≡ other
  unfolding gate_at
  gate_of_segment high =
      ap (λ (b : Bool). place_if b (eqb i 1) (eqb i 2) other) (ne_eqb i 0 (λ none. omega (arith, high, none)))
      ∙ ap (λ (b : Bool). place_if false b (eqb i 2) other) (ne_eqb i 1 (λ one. omega (arith, high, one)))
      ∙ ap (λ (b : Bool). place_if false false b other) (ne_eqb i 2 (λ two. omega (arith, high, two)))

-- the gates of a volume lie within its device
pub all_within : (segments blocks size : ℕ) → 1024 ≤ blocks → size ≡ 4096 * home_place segments blocks → AreWithin (segments + 3) size
all_within segments blocks size low is i there = elim (cases_eq i 0) [
  | inl first ↦ let at = gate_of_format_2 i first in omega (arith, low, is, at)
  | inr some ↦ elim (cases_eq i 1) [
    | inl second ↦ let at = gate_of_format_3 i second in omega (arith, low, is, at)
    | inr more ↦ elim (cases_eq i 2) [
      | inl third ↦ let at = gate_of_epoch i third in omega (arith, low, is, at)
      | inr last ↦ let at = gate_of_segment i (omega (arith, some, more, last)) in omega (arith, low, is, there, at, some, more, last)
    ]
  ]
]

-- the count that a superblock tells
pub count_of : (device : Device) (superblock : List ℕ) (n : ℕ) → superblock ≡ block 0 device.content → (size : ℕ) → size ≡ device.size
    → (IsSuperblock superblock size × (n ≡ number_at 16 4 superblock + 3)) ⊎ ((IsSuperblock superblock size → ⊥) × (n ≡ 0))
    → IsCount n device
count_of device superblock n is size same (inl told) =
    inl (
      subst (λ (k : ℕ). IsSuperblock (block 0 device.content) k) same (subst (λ (x : List ℕ). IsSuperblock x size) is told.0),
      told.1
          ∙ ap (λ (x : List ℕ). number_at 16 4 x + 3) is,
    )
count_of device superblock n is size same (inr none) =
    inr (
      λ it. none.0 (subst (λ (x : List ℕ). IsSuperblock x size) (sym is)
          (subst (λ (k : ℕ). IsSuperblock (block 0 device.content) k) (sym same) it)),
      none.1,
    )

-- after good reads the superblock and the size are the same
module _ (a b : Device) (look : IsLook a b) (seen : IsSeen a b) (t : IsTrue a.tells) where
  pub segments_back : HasSegments b → HasSegments a
  segments_back is = subst (λ (n : ℕ). IsSuperblock (block 0 a.content) n) look.time.size
      (subst (λ (x : List ℕ). IsSuperblock (block 0 x) b.size) (seen.content t) is)

  pub segments_on : HasSegments a → HasSegments b
  segments_on is = subst (λ (n : ℕ). IsSuperblock (block 0 b.content) n) (sym look.time.size)
      (subst (λ (x : List ℕ). IsSuperblock (block 0 x) a.size) (sym (seen.content t)) is)

  pub count_back : (n : ℕ) → IsCount n b → IsCount n a
  count_back n (inl many) = inl (segments_back many.0, many.1 ∙ ap (λ (x : List ℕ). segment_count x + 3) (seen.content t))
  count_back n (inr none) = inr (λ is. none.0 (segments_on is), none.1)

  pub count_on : (n : ℕ) → IsCount n a → IsCount n b
  count_on n (inl many) = inl (segments_on many.0, many.1 ∙ ap (λ (x : List ℕ). segment_count x + 3) (sym (seen.content t)))
  count_on n (inr none) = inr (λ is. none.0 (segments_back is), none.1)

  pub gates_back : (octets : List ℕ) → AreGates octets b.content → AreGates octets a.content
  gates_back octets gates = subst (λ (x : List ℕ). AreGates octets x) (seen.content t) gates

  pub gate_back : (k : ℕ) → IsGate b k → IsGate a k
  gate_back k gate = (
    segments_back gate.0,
    (gate.1.0, (subst (λ (x : List ℕ). gate.1.0 < segment_count x + 3) (seen.content t) gate.1.1.0, gate.1.1.1)),
  )

-- what is written back after them
module _ (D : Type 0) (device : D → Device) (write_grows sync_grows : Bool) where
  pub back_then : (result : Result (Unit {0}) DiskError) (a b c : D) → IsLook (device a) (device b) → IsSeen (device a) (device b)
      → WritesBack device write_grows sync_grows result b c → WritesBack device write_grows sync_grows result a c
  back_then result a b c look seen (inl them) = inl (record {
    octets = them.octets;
    few = them.few;
    read = them.read;
    look = look_then (device a) (device b) (device them.read) look them.look;
    seen = seen_then (device a) (device b) (device them.read) look seen them.seen;
    count = λ t. count_back (device a) (device b) look seen t (length them.octets) (them.count (tells_then (device a) (device b) look t));
    gates = λ t. gates_back (device a) (device b) look seen t them.octets (them.gates (tells_then (device a) (device b) look t));
    written = them.written;
  })
  back_then result a b c look seen (inr refused) = inr (refused.0, look_then (device a) (device b) (device c) look refused.1)
