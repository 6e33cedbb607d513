-- Slots that have changed places.
use Rattle.std.proofs.Common.{◌≡◌, ◌≢◌, ◌⊎◌, inl, inr, ◌<◌, ◌≤◌, ◌==◌, ℕ, ◌+◌, ◌-◌, ◌*◌, ◌/◌, ◌%◌, if◌then◌else◌, Bool, List, ◌++◌, length}
use Rattle.std.proofs.Common.{get_or, take, drop, length-take, Option, Some, None, refl, sym, ◌∙◌, ap, subst, arith}
use Rattle.std.specs.List.{SwappedAt}
use Rattle.std.specs.Option.{option_map}
use Rattle.std.proofs.lemmas.Bool.{cases_eq, cases_lt, eq-eqb, ne_eqb}
use Rattle.std.proofs.lemmas.List.{get_or-drop, get_or-take, get_or_append_left, get_or-append_right}
use borrow.Rule.Slice.PartMut.{put_mid}
use Rattle.disk_cache.specs.Slots.{IsArranged, IsNextBlock, IsSound, in_slot, is_collected, octet_at, other_of}
use Rattle.disk_cache.specs.declared.collected.Fill.{Fill}
use Rattle.disk_cache.proofs.Slots.{apart, cell_same}

module _ (low high : ℕ) where
  pub other_low : other_of low high low ≡ high
  other_low = ap (λ (b : Bool). if b then high else if low == high then low else low) (eq-eqb low low refl)

  pub other_high : other_of low high high ≡ low
  other_high = elim (cases_eq high low) [
    | inl same ↦ ap (λ (b : Bool). if b then high else if high == high then low else high) (eq-eqb high low same) ∙ same
    | inr apart ↦ ap (λ (b : Bool). if b then high else if high == high then low else high) (ne_eqb high low apart)
        ∙ ap (λ (b : Bool). if b then low else high) (eq-eqb high high refl)
  ]

  pub other_else : (s : ℕ) → s ≢ low → s ≢ high → other_of low high s ≡ s
  other_else s not_low not_high =
      ap (λ (b : Bool). if b then high else if s == high then low else s) (ne_eqb s low not_low)
      ∙ ap (λ (b : Bool). if b then low else s) (ne_eqb s high not_high)

  -- a slot is one of the two, or another
  pub other_cases : (P : ℕ → ℕ → Type 0) (s : ℕ) → P low high → P high low → (s ≢ low → s ≢ high → P s s) → P s (other_of low high s)
  other_cases P s at_low at_high at_other = elim (cases_eq s low) [
    | inl is_low ↦ subst (λ (t : ℕ). P t (other_of low high t)) (sym is_low) (subst (λ (t : ℕ). P low t) (sym other_low) at_low)
    | inr not_low ↦ elim (cases_eq s high) [
      | inl is_high ↦ subst (λ (t : ℕ). P t (other_of low high t)) (sym is_high) (subst (λ (t : ℕ). P high t) (sym other_high) at_high)
      | inr not_high ↦ subst (λ (t : ℕ). P s t) (sym (other_else s not_low not_high)) (at_other not_low not_high)
    ]
  ]

  pub other_twice : (s : ℕ) → other_of low high (other_of low high s) ≡ s
  other_twice s =
      other_cases (λ (a b : ℕ). other_of low high b ≡ a) s other_high other_low (λ not_low not_high. other_else s not_low not_high)

  pub other_below : (n s : ℕ) → low < n → high < n → s < n → other_of low high s < n
  other_below n s low_is high_is is = other_cases (λ (a b : ℕ). b < n) s high_is low_is (λ not_low not_high. is)

-- two slots that are one
pub same_slot : (low high : ℕ) → high ≡ low → (o : Option ℕ) → o ≡ option_map (other_of low high) o
same_slot low high same None = refl
same_slot low high same (Some s) = ap (λ (t : ℕ). Some t)
    (sym (other_cases low high (λ (a b : ℕ). b ≡ a) s same (sym same) (λ not_low not_high. refl)))

-- two elements that have changed places
pub swapped_items : {A : Type 0} (low high : ℕ) (xs ys : List A) → SwappedAt xs ys low high → (s : ℕ) (d : A)
    → get_or ys (other_of low high s) d ≡ get_or xs s d
swapped_items low high xs ys is s d =
    other_cases low high (λ (a b : ℕ). get_or ys b d ≡ get_or xs a d) s (is.1 d) (is.0 d) (λ not_low not_high. is.2 s d not_low not_high)

-- a part of some octets that others replace
module _ (xs ys : List ℕ) (a k : ℕ) where
  pub put_at : (i : ℕ) → a + k ≤ length xs → i < length ys → get_or (put_mid a k xs ys) (a + i) 0 ≡ get_or ys i 0
  put_at i fits within =
      let front = length-take a xs in
      let place : a + i - a ≡ i = omega arith in
      get_or-append_right (take a xs) (ys ++ drop k (drop a xs)) a (a + i) 0 (omega (arith, front, fits)) (omega arith)
      ∙ ap (λ (j : ℕ). get_or (ys ++ drop k (drop a xs)) j 0) place ∙ get_or_append_left ys (drop k (drop a xs)) 0 i within

  pub put_beside : (p : ℕ) → a + k ≤ length xs → length ys ≡ k → (p < a) ⊎ (a + k ≤ p) → get_or (put_mid a k xs ys) p 0 ≡ get_or xs p 0
  put_beside p fits size (inl below) =
      let front = length-take a xs in
      get_or_append_left (take a xs) (ys ++ drop k (drop a xs)) 0 p (omega (arith, front, fits, below)) ∙ get_or-take a xs p 0 below
  put_beside p fits size (inr behind) =
      let front = length-take a xs in
      let place : a + (k + (p - a - k)) ≡ p = omega (arith, behind) in
      get_or-append_right (take a xs) (ys ++ drop k (drop a xs)) a p 0 (omega (arith, front, fits)) (omega (arith, behind))
      ∙ get_or-append_right ys (drop k (drop a xs)) k (p - a) 0 size (omega (arith, behind))
      ∙ get_or-drop k (drop a xs) (p - a - k) 0 ∙ get_or-drop a xs (k + (p - a - k)) 0 ∙ ap (λ (q : ℕ). get_or xs q 0) place

-- two blocks of some octets, where one is before a place and one behind it
pub swapped_blocks : (xs front back ys : List ℕ) (low high : ℕ) → low < high → ys ≡ front ++ back → length front ≡ 4096 * high
    → ((i : ℕ) → i < 4096 → get_or front (4096 * low + i) 0 ≡ get_or (drop (4096 * high) xs) i 0)
    → ((p : ℕ) → (p < 4096 * low) ⊎ (4096 * low + 4096 ≤ p) → get_or front p 0 ≡ get_or (take (4096 * high) xs) p 0)
    → ((i : ℕ) → i < 4096 → get_or back i 0 ≡ get_or (take (4096 * high) xs) (4096 * low + i) 0)
    → ((p : ℕ) → 4096 ≤ p → get_or back p 0 ≡ get_or (drop (4096 * high) xs) p 0)
    → (s i : ℕ) → i < 4096 → get_or ys (4096 * other_of low high s + i) 0 ≡ get_or xs (4096 * s + i) 0
swapped_blocks xs front back ys low high order are front_size in_front beside in_back behind s i within =
    other_cases low high (λ (a b : ℕ). get_or ys (4096 * b + i) 0 ≡ get_or xs (4096 * a + i) 0) s at_low at_high at_other
  where
    of_front : (p : ℕ) → p < 4096 * high → get_or ys p 0 ≡ get_or front p 0
    of_front p below = ap (λ (l : List ℕ). get_or l p 0) are ∙ get_or_append_left front back 0 p (omega (arith, below, front_size))

    of_back : (k : ℕ) → get_or ys (4096 * high + k) 0 ≡ get_or back k 0
    of_back k =
        let place : 4096 * high + k - 4096 * high ≡ k = omega arith in
        ap (λ (l : List ℕ). get_or l (4096 * high + k) 0) are
        ∙ get_or-append_right front back (4096 * high) (4096 * high + k) 0 front_size (omega arith) ∙ ap (λ (j : ℕ). get_or back j 0) place

    at_low : get_or ys (4096 * high + i) 0 ≡ get_or xs (4096 * low + i) 0
    at_low = of_back i ∙ in_back i within ∙ get_or-take (4096 * high) xs (4096 * low + i) 0 (omega (arith, order, within))

    at_high : get_or ys (4096 * low + i) 0 ≡ get_or xs (4096 * high + i) 0
    at_high = of_front (4096 * low + i) (omega (arith, order, within)) ∙ in_front i within ∙ get_or-drop (4096 * high) xs i 0

    away : s ≢ low → (4096 * s + i < 4096 * low) ⊎ (4096 * low + 4096 ≤ 4096 * s + i)
    away not_low = elim (cases_lt s low) [
      | inl below ↦ inl (omega (arith, below, within))
      | inr above ↦ inr (omega (arith, above, not_low))
    ]

    at_other : s ≢ low → s ≢ high → get_or ys (4096 * s + i) 0 ≡ get_or xs (4096 * s + i) 0
    at_other not_low not_high = elim (cases_lt s high) [
      | inl below ↦
          of_front (4096 * s + i) (omega (arith, below, within)) ∙ beside (4096 * s + i) (away not_low)
          ∙ get_or-take (4096 * high) xs (4096 * s + i) 0 (omega (arith, below, within))
      | inr above ↦
          let place : 4096 * s + i ≡ 4096 * high + (4096 * (s - high) + i) = omega (arith, above) in
          ap (λ (p : ℕ). get_or ys p 0) place ∙ of_back (4096 * (s - high) + i)
          ∙ behind (4096 * (s - high) + i) (omega (arith, above, not_high)) ∙ get_or-drop (4096 * high) xs (4096 * (s - high) + i) 0
          ∙ ap (λ (p : ℕ). get_or xs p 0) (sym place)
    ]

mapped : (f : ℕ → ℕ) (o : Option ℕ) (t : ℕ) → option_map f o ≡ Some t → (s : ℕ) × ((o ≡ Some s) × (f s ≡ t))
mapped f None t is = absurd (let two : None ≡ Some t = is in cc)
mapped f (Some s) t is = (s, (refl, same is))
  where
    same : Some (f s) ≡ Some t → f s ≡ t
    same is = cc

-- what two slots have, and the blocks that have them, change places
pub record IsMoved (low high : ℕ) (slot_of : ℕ → Option ℕ) (blocks : List ℕ) (fills : List Fill) (flags octets : List ℕ)
    (slot_of' : ℕ → Option ℕ) (blocks' : List ℕ) (fills' : List Fill) (flags' octets' : List ℕ) : Type 0 where
  pub low_there : low < length blocks
  pub high_there : high < length blocks
  pub moved : (b : ℕ) → slot_of' b ≡ option_map (other_of low high) (slot_of b)
  pub blocks_is : (s : ℕ) → get_or blocks' (other_of low high s) 0 ≡ get_or blocks s 0
  pub blocks_size : length blocks' ≡ length blocks
  pub collected : (s i : ℕ) → i < 4096
      → is_collected fills' flags' (4096 * other_of low high s + i) ≡ is_collected fills flags (4096 * s + i)
  pub fills_size : length fills' ≡ length fills
  pub flags_size : length flags' ≡ length flags
  pub octets_are : (s i : ℕ) → i < 4096 → get_or octets' (4096 * other_of low high s + i) 0 ≡ get_or octets (4096 * s + i) 0
  pub octets_size : length octets' ≡ length octets

module _ (low high : ℕ) (slot_of : ℕ → Option ℕ) (blocks : List ℕ) (fills : List Fill) (flags octets : List ℕ) (slot_of' : ℕ → Option ℕ)
    (blocks' : List ℕ) (fills' : List Fill) (flags' octets' : List ℕ) (sound : IsSound slot_of blocks fills flags octets)
    (is : IsMoved low high slot_of blocks fills flags octets slot_of' blocks' fills' flags' octets') where
  moved_slot : (slot : Option ℕ) (i : ℕ) → i < 4096
      → in_slot (option_map (other_of low high) slot) fills' flags' octets' i ≡ in_slot slot fills flags octets i
  moved_slot None i within = refl
  moved_slot (Some s) i within =
      cell_same fills flags octets fills' flags' octets' (4096 * other_of low high s + i) (4096 * s + i) (is.collected s i within)
      (is.octets_are s i within)

  pub moved_same : (k : ℕ) → octet_at slot_of' fills' flags' octets' k ≡ octet_at slot_of fills flags octets k
  moved_same k =
      ap (λ (s : Option ℕ). in_slot s fills' flags' octets' (k % 4096)) (is.moved (k / 4096))
      ∙ moved_slot (slot_of (k / 4096)) (k % 4096) (omega arith)

  pub moved_sound : IsSound slot_of' blocks' fills' flags' octets'
  moved_sound = record {
    few = λ b slot has. let old = mapped (other_of low high) (slot_of b) slot (sym (is.moved b) ∙ has) in sound.few b old.0 old.1.0;
    within = λ b slot has.
        let old = mapped (other_of low high) (slot_of b) slot (sym (is.moved b) ∙ has) in
        let was = sound.within b old.0 old.1.0 in
        let now = other_below low high (length blocks) old.0 is.low_there is.high_there was in
        subst (λ (t : ℕ). t < length blocks') old.1.1 (omega (arith, now, is.blocks_size));
    owner = λ b slot has.
        let old = mapped (other_of low high) (slot_of b) slot (sym (is.moved b) ∙ has) in
        ap (λ (s : ℕ). get_or blocks' s 0) (sym old.1.1) ∙ is.blocks_is old.0 ∙ sound.owner b old.0 old.1.0;
    owned = λ slot below.
        let was = other_below low high (length blocks) slot is.low_there is.high_there (omega (arith, below, is.blocks_size)) in
        let block : get_or blocks' slot 0 ≡ get_or blocks (other_of low high slot) 0 =
        ap (λ (s : ℕ). get_or blocks' s 0) (sym (other_twice low high slot)) ∙ is.blocks_is (other_of low high slot) in
        ap (λ (b : ℕ). slot_of' b) block
        ∙ is.moved (get_or blocks (other_of low high slot) 0)
        ∙ ap (λ (o : Option ℕ). option_map (other_of low high) o) (sound.owned (other_of low high slot) was)
        ∙ ap (λ (s : ℕ). Some s) (other_twice low high slot);
    fills_room = omega (arith, is.blocks_size, is.fills_size, sound.fills_room);
    room = omega (arith, is.blocks_size, is.flags_size, sound.room);
    octets_room = omega (arith, is.flags_size, is.octets_size, sound.octets_room);
  }

-- two blocks that are given each other's slots
pub replaced : (low high : ℕ) (slot_of first second : ℕ → Option ℕ) (blocks : List ℕ) (fills : List Fill) (flags octets : List ℕ)
    (block : ℕ) → IsSound slot_of blocks fills flags octets → slot_of block ≡ Some high → low < length blocks
    → first (get_or blocks low 0) ≡ Some high → ((b : ℕ) → b ≢ get_or blocks low 0 → first b ≡ slot_of b) → second block ≡ Some low
    → ((b : ℕ) → b ≢ block → second b ≡ first b) → (b : ℕ) → second b ≡ option_map (other_of low high) (slot_of b)
replaced low high slot_of first second blocks fills flags octets block sound has there first_is first_else second_is second_else b =
    elim (cases_eq b block) [
      | inl here ↦ ap (λ (k : ℕ). second k) here ∙ second_is ∙ sym (ap (λ (k : ℕ). option_map (other_of low high) (slot_of k)) here
          ∙ ap (λ (o : Option ℕ). option_map (other_of low high) o) has ∙ ap (λ (s : ℕ). Some s) (other_high low high))
      | inr away ↦ elim (cases_eq b (get_or blocks low 0)) [
        | inl other ↦ second_else b away ∙ ap (λ (k : ℕ). first k) other ∙ first_is
            ∙ sym (ap (λ (k : ℕ). option_map (other_of low high) (slot_of k)) other
            ∙ ap (λ (o : Option ℕ). option_map (other_of low high) o) (sound.owned low there) ∙ ap (λ (s : ℕ). Some s) (other_low low high))
        | inr apart_too ↦ second_else b away ∙ first_else b apart_too ∙ sym (still (slot_of b) refl away apart_too)
      ]
    ]
  where
    still : (o : Option ℕ) → slot_of b ≡ o → b ≢ block → b ≢ get_or blocks low 0 → option_map (other_of low high) o ≡ o
    still None is away apart_too = refl
    still (Some s) is away apart_too = ap (λ (t : ℕ). Some t) (other_else low high s
        (λ is_low. apart_too (sym (ap (λ (t : ℕ). get_or blocks t 0) (sym is_low) ∙ sound.owner b s is)))
        (λ is_high. away (apart slot_of blocks fills flags octets sound b block s is (has ∙ ap (λ (t : ℕ). Some t) (sym is_high)))))

-- the blocks below one have slots below one, in the order of the blocks
pub record IsArrangedTo (from slot : ℕ) (slot_of : ℕ → Option ℕ) : Type 0 where
  pub few : slot ≤ from
  pub below : (b s : ℕ) → b < from → slot_of b ≡ Some s → s < slot
  pub rising : (b s t : ℕ) → b + 1 < from → slot_of b ≡ Some s → slot_of (b + 1) ≡ Some t → t ≡ s + 1
  pub last : (b s : ℕ) → b + 1 ≡ from → slot_of b ≡ Some s → s + 1 ≡ slot
  pub above : (b s : ℕ) → from ≤ b → slot_of b ≡ Some s → slot ≤ s

none_some : (o : Option ℕ) (s : ℕ) → o ≡ None → o ≡ Some s → ⊥
none_some o s none some = cc

pub none_arranged : (slot_of : ℕ → Option ℕ) → IsArrangedTo 0 0 slot_of
none_arranged slot_of = record {
  few = omega arith;
  below = λ b s low has. absurd (omega (arith, low));
  rising = λ b s t low has next. absurd (omega (arith, low));
  last = λ b s is has. absurd (omega (arith, is));
  above = λ b s low has. omega arith;
}

-- the first block behind them gets the next slot
module _ (from slot block before : ℕ) (slot_of slot_of' : ℕ → Option ℕ) (so_far : IsArrangedTo from slot slot_of)
    (next : IsNextBlock slot_of from block before)
    (apart_slots : (b c s : ℕ) → slot_of b ≡ Some s → slot_of c ≡ Some s → b ≡ c)
    (moved : (b : ℕ) → slot_of' b ≡ option_map (other_of slot before) (slot_of b)) where
  order : slot ≤ before
  order = so_far.above block before next.low next.has

  old : (b s : ℕ) → slot_of' b ≡ Some s → (t : ℕ) × ((slot_of b ≡ Some t) × (other_of slot before t ≡ s))
  old b s has = mapped (other_of slot before) (slot_of b) s (sym (moved b) ∙ has)

  -- a block below has the slot that it had
  still : (b s : ℕ) → b < from → slot_of' b ≡ Some s → slot_of b ≡ Some s
  still b s low has =
      let was = old b s has in
      let is_below = so_far.below b was.0 low was.1.0 in
      was.1.0 ∙ ap (λ (t : ℕ). Some t)
      (sym (other_else slot before was.0 (λ is. omega (arith, is, is_below)) (λ is. omega (arith, is, is_below, order))) ∙ was.1.1)

  its : (b s : ℕ) → b ≡ block → slot_of' b ≡ Some s → s ≡ slot
  its b s here has =
      let was = old b s has in
      let same : Some was.0 ≡ Some before = sym was.1.0 ∙ ap (λ (k : ℕ). slot_of k) here ∙ next.has in
      let equal : was.0 ≡ before = cc in
      sym was.1.1 ∙ ap (λ (t : ℕ). other_of slot before t) equal ∙ other_high slot before

  between : (b s : ℕ) → from ≤ b → b < block → slot_of' b ≡ Some s → ⊥
  between b s low high has = let was = old b s has in none_some (slot_of b) was.0 (next.first b low high) was.1.0

  -- a block up to that one is below, or that one
  place : (b s : ℕ) → b < block + 1 → slot_of' b ≡ Some s → (b < from) ⊎ (b ≡ block)
  place b s low has = elim (cases_lt b from) [
    | inl below ↦ inl below
    | inr behind ↦ elim (cases_lt b block) [
      | inl before_it ↦ absurd (between b s behind before_it has)
      | inr at_it ↦ inr (omega (arith, at_it, low))
    ]
  ]

  pub one_arranged : IsArrangedTo (block + 1) (slot + 1) slot_of'
  one_arranged = record {
    few = omega (arith, so_far.few, next.low);
    below = λ b s low has. elim (place b s low has) [
      | inl below ↦ (let is_below = so_far.below b s below (still b s below has) in omega (arith, is_below))
      | inr here ↦ (let is = its b s here has in omega (arith, is))
    ];
    rising = λ b s t low has after. elim (place (b + 1) t low after) [
      | inl below ↦ so_far.rising b s t below (still b s (omega (arith, below)) has) (still (b + 1) t below after)
      | inr here ↦ (let is = its (b + 1) t here after in elim (place b s (omega (arith, low)) has) [
        | inl under ↦ (let from_is : b + 1 ≡ from = omega (arith, under, here, next.low) in
            let last = so_far.last b s from_is (still b s under has) in omega (arith, is, last))
        | inr same ↦ absurd (omega (arith, same, here))
      ])
    ];
    last = λ b s is has. let here = its b s (omega (arith, is)) has in omega (arith, here);
    above = λ b s low has.
        let was = old b s has in
        let high_enough = so_far.above b was.0 (omega (arith, low, next.low)) was.1.0 in
        let other : was.0 ≢ before = λ same. (let b_is = apart_slots b block was.0 was.1.0 (next.has ∙ ap (λ (t : ℕ). Some t) (sym same)) in
        omega (arith, b_is, low)) in
        elim (cases_eq was.0 slot) [
          | inl is_slot ↦
              let is : s ≡ before = sym was.1.1 ∙ ap (λ (t : ℕ). other_of slot before t) is_slot ∙ other_low slot before in
              omega (arith, is, order, other, is_slot)
          | inr not_slot ↦
              let is : s ≡ was.0 = sym was.1.1 ∙ other_else slot before was.0 not_slot other in
              omega (arith, is, high_enough, not_slot)
        ];
  }

pub all_arranged : (from slot : ℕ) (slot_of : ℕ → Option ℕ) → IsArrangedTo from slot slot_of
    → ((b : ℕ) → from ≤ b → slot_of b ≡ None) → IsArranged slot_of
all_arranged from slot slot_of so_far none b s t has next = elim (cases_lt (b + 1) from) [
  | inl below ↦ so_far.rising b s t below has next
  | inr behind ↦ absurd (none_some (slot_of (b + 1)) t (none (b + 1) behind) next)
]
