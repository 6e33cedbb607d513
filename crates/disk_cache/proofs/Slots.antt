-- What was collected, by the slots of the blocks.
use Rattle.std.proofs.Common.{◌≡◌, inl, inr, ◌<◌, ◌≤◌, ◌==◌, ℕ, ◌+◌, ◌-◌, ◌*◌, ◌/◌, ◌%◌, if◌then◌else◌, Bool, true, false}
use Rattle.std.proofs.Common.{List, [], ◌∷◌, length}
use Rattle.std.proofs.Common.{get_or, take, drop, length-take, length-drop, Option, Some, None, refl, sym, ◌∙◌, ap, subst, arith}
use Rattle.std.specs.List.{slice_get}
use Rattle.std.specs.Option.{IfSome, IsSome}
use Rattle.std.specs.Map.{lookup}
use Rattle.std.specs.BTreeMap.{BTreeMap, get, is_at}
use Rattle.std.specs.BTreeMap.Range.{IsEntryInRange, IsLeBy, IsRangeOf}
use Rattle.std.specs.Cmp.{nat_cmp_is}
use Rattle.std.specs.Ordering.{is_gt, nat_cmp}
use Rattle.std.specs.declared.cmp.Ordering.TheVariants.{Equal, Less}
use Rattle.std.specs.declared.ops.Bound.TheVariants.{Included, Unbounded}
use Rattle.std.proofs.lemmas.Bool.{cases_order}
use Rattle.std.proofs.lemmas.List.{get_or-drop, get_or-take}
use Rattle.std.proofs.lemmas.Map.Keys.{le_from_not_gt}
use Rattle.disk_cache.specs.Slots.{AreSlots, AreWhole, IsNextBlock, IsSound, cell, in_slot, is_collected, is_flagged, octet_at}
use Rattle.disk_cache.specs.declared.collected.Fill.{Fill}
use Rattle.disk_cache.specs.declared.collected.Fill.TheVariants.{Nothing, Partly, Whole}

-- ---- the octets of a slot

pub cell_collected : (fills : List Fill) (flags octets : List ℕ) (p : ℕ) → is_collected fills flags p ≡ true
    → cell fills flags octets p ≡ Some (get_or octets p 0)
cell_collected fills flags octets p is = ap (λ (b : Bool). if b then Some (get_or octets p 0) else None) is

pub cell_same : (fills : List Fill) (flags octets : List ℕ) (fills' : List Fill) (flags' octets' : List ℕ) (p q : ℕ)
    → is_collected fills' flags' p ≡ is_collected fills flags q → get_or octets' p 0 ≡ get_or octets q 0
    → cell fills' flags' octets' p ≡ cell fills flags octets q
cell_same fills flags octets fills' flags' octets' p q same_flag same_octet =
    ap (λ (b : Bool). if b then Some (get_or octets' p 0) else None) same_flag
    ∙ ap (λ (o : ℕ). if is_collected fills flags q then Some o else None) same_octet

pub flagged_same : (fill : Fill) (flags flags' : List ℕ) (p q : ℕ) → get_or flags' p 0 ≡ get_or flags q 0
    → is_flagged fill flags' p ≡ is_flagged fill flags q
flagged_same Nothing flags flags' p q same = refl
flagged_same Partly flags flags' p q same = ap (λ (f : ℕ). f == 1) same
flagged_same Whole flags flags' p q same = refl

-- slots with the same fill, at places with the same flag
pub collected_same : (fills : List Fill) (flags : List ℕ) (fills' : List Fill) (flags' : List ℕ) (p q : ℕ)
    → get_or fills' (p / 4096) Nothing ≡ get_or fills (q / 4096) Nothing → get_or flags' p 0 ≡ get_or flags q 0
    → is_collected fills' flags' p ≡ is_collected fills flags q
collected_same fills flags fills' flags' p q same_fill same_flag =
    ap (λ (f : Fill). is_flagged f flags' p) same_fill ∙ flagged_same (get_or fills (q / 4096) Nothing) flags flags' p q same_flag

pub in_slot_same : (slot : Option ℕ) (fills : List Fill) (flags octets : List ℕ) (fills' : List Fill) (flags' octets' : List ℕ) (i : ℕ)
    → ((s : ℕ) → slot ≡ Some s → cell fills' flags' octets' (4096 * s + i) ≡ cell fills flags octets (4096 * s + i))
    → in_slot slot fills' flags' octets' i ≡ in_slot slot fills flags octets i
in_slot_same None fills flags octets fills' flags' octets' i same = refl
in_slot_same (Some s) fills flags octets fills' flags' octets' i same = same s refl

-- ---- the slot of a block

module _ (slot_of : ℕ → Option ℕ) (fills : List Fill) (flags octets : List ℕ) where
  pub octets_in_slot : (block slot i : ℕ) → i < 4096 → slot_of block ≡ Some slot
      → octet_at slot_of fills flags octets (4096 * block + i) ≡ cell fills flags octets (4096 * slot + i)
  octets_in_slot block slot i low has =
      let at : (4096 * block + i) / 4096 ≡ block = omega (arith, low) in
      let step : (4096 * block + i) % 4096 ≡ i = omega (arith, low) in
      ap (λ (b : ℕ). in_slot (slot_of b) fills flags octets ((4096 * block + i) % 4096)) at
      ∙ ap (λ (s : Option ℕ). in_slot s fills flags octets ((4096 * block + i) % 4096)) has
      ∙ ap (λ (j : ℕ). cell fills flags octets (4096 * slot + j)) step

  pub none_without_slot : (k : ℕ) → slot_of (k / 4096) ≡ None → octet_at slot_of fills flags octets k ≡ None
  none_without_slot k none = ap (λ (s : Option ℕ). in_slot s fills flags octets (k % 4096)) none

  -- where no block has a slot
  pub empty_sound : (blocks : List ℕ) → ((b : ℕ) → slot_of b ≡ None) → length blocks ≡ 0 → length flags ≤ length octets
      → IsSound slot_of blocks fills flags octets
  empty_sound blocks none empty room = record {
    few = λ b slot has. absurd (let two : Some slot ≡ None = sym has ∙ none b in cc);
    within = λ b slot has. absurd (let two : Some slot ≡ None = sym has ∙ none b in cc);
    owner = λ b slot has. absurd (let two : Some slot ≡ None = sym has ∙ none b in cc);
    owned = λ slot below. absurd (omega (arith, below, empty));
    fills_room = omega (arith, empty);
    room = omega (arith, empty);
    octets_room = room;
  }

-- two blocks don't share a slot
pub apart : (slot_of : ℕ → Option ℕ) (blocks : List ℕ) (fills : List Fill) (flags octets : List ℕ)
    → IsSound slot_of blocks fills flags octets → (b c slot : ℕ) → slot_of b ≡ Some slot → slot_of c ≡ Some slot → b ≡ c
apart slot_of blocks fills flags octets sound b c slot has also = sym (sound.owner b slot has) ∙ sound.owner c slot also

-- a map without entries has no slot
pub empty_map : (slots : BTreeMap ℕ ℕ) → slots.entries ≡ [] → (b : ℕ) → get nat_cmp slots b ≡ None
empty_map slots empty b = ap (λ (es : List (ℕ × ℕ)). lookup (is_at (nat_cmp b)) es) empty

-- ---- slots, as they are cut out of the octets

module _ (slot_of : ℕ → Option ℕ) (blocks : List ℕ) (fills : List Fill) (flags octets : List ℕ)
    (sound : IsSound slot_of blocks fills flags octets) (block slot past : ℕ) (order : slot ≤ past) (there : past ≤ length blocks)
    (adjacent : (i : ℕ) → slot + i < past → get_or blocks (slot + i) 0 ≡ block + i) where
  abbrev fills' : List Fill
  fills' = take (past - slot) (drop slot fills)

  abbrev cut_out : List ℕ → List ℕ
  cut_out xs = take (4096 * past - 4096 * slot) (drop (4096 * slot) xs)

  fills_cut : length fills' ≡ past - slot
  fills_cut = omega (arith, order, there, sound.fills_room, length-take (past - slot) (drop slot fills), length-drop slot fills)

  cut_size : (xs : List ℕ) → 4096 * past ≤ length xs → length (cut_out xs) ≡ 4096 * length fills'
  cut_size xs fits =
      omega (
        arith,
        fits,
        order,
        fills_cut,
        length-take (4096 * past - 4096 * slot) (drop (4096 * slot) xs),
        length-drop (4096 * slot) xs,
      )

  cut_at : (xs : List ℕ) (i : ℕ) → i < 4096 * past - 4096 * slot → get_or (cut_out xs) i 0 ≡ get_or xs (4096 * slot + i) 0
  cut_at xs i low = get_or-take (4096 * past - 4096 * slot) (drop (4096 * slot) xs) i 0 low ∙ get_or-drop (4096 * slot) xs i 0

  cut_whole : AreWhole fills' (cut_out flags) (cut_out octets)
  cut_whole = record {
    flags_size = cut_size flags (omega (arith, there, sound.room));
    octets_size = cut_size octets (omega (arith, there, sound.room, sound.octets_room));
  }

  slot_there : (j : ℕ) → slot + j < past → slot_of (block + j) ≡ Some (slot + j)
  slot_there j below = ap (λ (b : ℕ). slot_of b) (sym (adjacent j below)) ∙ sound.owned (slot + j) (omega (arith, below, there))

  cut_cell : (i : ℕ) → i < 4096 * past - 4096 * slot
      → cell fills' (cut_out flags) (cut_out octets) i ≡ cell fills flags octets (4096 * slot + i)
  cut_cell i low =
      let q : (4096 * slot + i) / 4096 ≡ slot + i / 4096 = omega arith in
      let below : i / 4096 < past - slot = omega (arith, low) in
      cell_same fills flags octets fills' (cut_out flags) (cut_out octets) i (4096 * slot + i)
      (collected_same fills flags fills' (cut_out flags) i (4096 * slot + i)
      (get_or-take (past - slot) (drop slot fills) (i / 4096) Nothing below ∙ get_or-drop slot fills (i / 4096) Nothing
      ∙ ap (λ (s : ℕ). get_or fills s Nothing) (sym q))
      (cut_at flags i low))
      (cut_at octets i low)

  cut_octet : (i : ℕ) → i < 4096 * past - 4096 * slot
      → octet_at slot_of fills flags octets (4096 * block + i) ≡ cell fills flags octets (4096 * slot + i)
  cut_octet i low =
      let place : 4096 * block + i ≡ 4096 * (block + i / 4096) + i % 4096 = omega arith in
      let back : 4096 * (slot + i / 4096) + i % 4096 ≡ 4096 * slot + i = omega arith in
      ap (λ (k : ℕ). octet_at slot_of fills flags octets k) place
      ∙ octets_in_slot slot_of fills flags octets (block + i / 4096) (slot + i / 4096) (i % 4096) (omega arith)
      (slot_there (i / 4096) (omega (arith, low)))
      ∙ ap (λ (p : ℕ). cell fills flags octets p) back

  pub cut_slots : AreSlots block (past - slot) (octet_at slot_of fills flags octets) fills' (cut_out flags) (cut_out octets)
  cut_slots = record {
    fills_size = fills_cut;
    whole = cut_whole;
    cells = λ i low. let within : i < 4096 * past - 4096 * slot = omega (arith, low, order) in
        cut_octet i within ∙ sym (cut_cell i within);
  }

-- ---- the slots from a block on

not_above : (a b : ℕ) → a ≤ b → is_gt (nat_cmp a b) ≡ false
not_above a b low = elim (cases_order a b) [
  | inl same ↦ ap is_gt (sym (nat_cmp_is a b Equal same))
  | inr ordered ↦ elim ordered [
    | inl less ↦ ap is_gt (sym (nat_cmp_is a b Less less))
    | inr more ↦ absurd (omega (arith, low, more))
  ]
]

no_slot : (o : Option ℕ) → (IsSome o → ⊥) → o ≡ None
no_slot None other = refl
no_slot (Some x) other = absurd (other refl)

-- what a range of the slots from a block on begins with
module _ (slots : BTreeMap ℕ ℕ) (from : ℕ) (r : List (ℕ × ℕ)) (is : IsRangeOf nat_cmp (Included from) Unbounded slots r) where
  pub next_slot : (e : ℕ × ℕ) (t : List (ℕ × ℕ)) → r ≡ e ∷ t → IsNextBlock (get nat_cmp slots) from e.0 e.1
  next_slot e t begins =
      let head : IsEntryInRange nat_cmp (Included from) Unbounded slots e =
      subst (λ (l : List (ℕ × ℕ)). IfSome (slice_get l 0) (IsEntryInRange nat_cmp (Included from) Unbounded slots))
      begins is.1 in
      record {
        low = le_from_not_gt from e.0 head.0.0;
        has = head.1;
        first = λ b low before. no_slot (get nat_cmp slots b) (λ some.
            let least : IsLeBy nat_cmp e.0 b =
            subst (λ (l : List (ℕ × ℕ)). IfSome (slice_get l 0) (λ f. IsLeBy nat_cmp f.0 b)) begins
            (is.2 b (not_above from b low, tt) some) in
            let order = le_from_not_gt e.0 b least in
            omega (arith, order, before));
      }

  pub no_next : r ≡ [] → (b : ℕ) → from ≤ b → get nat_cmp slots b ≡ None
  no_next empty b low = is.5 empty b (not_above from b low, tt)
