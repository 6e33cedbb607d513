-- Marks that change, and how many are left.
use Rattle.std.proofs.Common.{◌≡◌, ◌≢◌, inl, inr, ◌<◌, ◌≤◌, ℕ, zero, suc, ◌+◌, ◌-◌, ◌*◌, ◌/◌, ◌%◌, ◌^◌, cond, eqb, not, Bool, true, false}
use Rattle.std.proofs.Common.{count_by, List, [], ◌∷◌, length, get_or, set, refl, sym, ◌∙◌, ap, arith, length-set}
use Rattle.std.specs.List.{range_with_len}
use Rattle.std.proofs.lemmas.List.{get_or-set_same, get_or-set_other}
use Rattle.std.proofs.lemmas.List.Elements.{All-set}
use Rattle.std.proofs.lemmas.Bool.{cases_lt, cases_eq}
use Rattle.disk.specs.Image.{overwritten}
use Rattle.disk.proofs.Images.{length-overwritten, overwritten_above, overwritten_below, overwritten_inside}
use Rattle.model.specs.Stream.{Octets}
use Rattle.model.specs.Files.{bitmap_blocks, free_blocks, is_marked_used}
use Rattle.fs_layout.specs.Bits.{bit_of, SetsBit}
use Rattle.fs_layout.specs.Marks.{IsLowestClear, IsLowestFree, HasNoFreeBlock, NoneFreeBelow, SetsMark, TakesBlock}
use Rattle.fs_layout.proofs.Counts.{count_same, count_split, count_more, mark_is_bit}

-- ---- bits of the bitmap's blocks

pub mark_at : (blocks : List Octets) (b : ℕ) → is_marked_used blocks b ≡ bit_of (get_or blocks (b / 32768) []) (b % 32768)
mark_at blocks b =
    let is : b ≡ 32768 * (b / 32768) + b % 32768 = omega arith in
    ap (λ (n : ℕ). is_marked_used blocks n) is ∙ mark_is_bit blocks (b / 32768) (b % 32768) (omega arith)

pub mark_in : (blocks : List Octets) (n b : ℕ) (bitmap : Octets) → bitmap ≡ get_or blocks n [] → 32768 * n ≤ b → b < 32768 * n + 32768
    → is_marked_used blocks b ≡ bit_of bitmap (b - 32768 * n)
mark_in blocks n b bitmap is low high =
    let block : b / 32768 ≡ n = omega arith in
    let bit : b % 32768 ≡ b - 32768 * n = omega arith in
    mark_at blocks b ∙ ap (λ (k : ℕ). bit_of (get_or blocks k []) (b % 32768)) block ∙ ap (λ (o : Octets). bit_of o (b % 32768)) (sym is)
    ∙ ap (λ (k : ℕ). bit_of bitmap k) bit

-- a bit of one octet is changed
module _ (bit : ℕ) (value : Bool) (block octet : Octets) (low : bit / 8 < length block)
    (sets : SetsBit (bit % 8) value (get_or block (bit / 8) 0 ∷ []) octet) where
  fits : bit / 8 + length octet ≤ length block
  fits = omega (arith, sets.size)

  -- the bits of that octet, and what they were
  bits_now : (b : ℕ) → b / 8 ≡ bit / 8 → bit_of (overwritten (bit / 8) octet block) b ≡ bit_of octet (b % 8)
  bits_now b same =
      let front : bit / 8 - bit / 8 ≡ b % 8 / 8 = omega arith in
      let within : b % 8 ≡ b % 8 % 8 = omega arith in
      ap (λ (k : ℕ). eqb (get_or (overwritten (bit / 8) octet block) k 0 / 2 ^ (b % 8) % 2) 1) same
      ∙ ap (λ (n : ℕ). eqb (n / 2 ^ (b % 8) % 2) 1)
      (overwritten_inside (bit / 8) octet block fits (bit / 8) 0 (omega arith) (omega (arith, sets.size)))
      ∙ ap (λ (k : ℕ). eqb (get_or octet k 0 / 2 ^ (b % 8) % 2) 1) front
      ∙ ap (λ (m : ℕ). eqb (get_or octet (b % 8 / 8) 0 / 2 ^ m % 2) 1) within

  bits_before : (b : ℕ) → b / 8 ≡ bit / 8 → bit_of (get_or block (bit / 8) 0 ∷ []) (b % 8) ≡ bit_of block b
  bits_before b same =
      let front : b % 8 / 8 ≡ 0 = omega arith in
      let within : b % 8 % 8 ≡ b % 8 = omega arith in
      ap (λ (k : ℕ). eqb (get_or (get_or block (bit / 8) 0 ∷ []) k 0 / 2 ^ (b % 8 % 8) % 2) 1) front
      ∙ ap (λ (m : ℕ). eqb (get_or block (bit / 8) 0 / 2 ^ m % 2) 1) within
      ∙ ap (λ (k : ℕ). eqb (get_or block k 0 / 2 ^ (b % 8) % 2) 1) (sym same)

  pub sets_in_octet : SetsBit bit value block (overwritten (bit / 8) octet block)
  sets_in_octet = record {
    size = length-overwritten (bit / 8) octet block fits;
    here = bits_now bit refl ∙ sets.here;
    other = λ b apart. elim (cases_eq (b / 8) (bit / 8)) [
      | inl same ↦
          let differs : b % 8 ≢ bit % 8 = omega arith in
          bits_now b same ∙ sets.other (b % 8) differs ∙ bits_before b same
      | inr elsewhere ↦ ap (λ (n : ℕ). eqb (n / 2 ^ (b % 8) % 2) 1) (elim (cases_lt (b / 8) (bit / 8)) [
        | inl below ↦ overwritten_below (bit / 8) octet block fits (b / 8) 0 below
        | inr above ↦ overwritten_above (bit / 8) octet block fits (b / 8) 0 (omega (arith, sets.size))
      ])
    ];
  }

-- a bit of a block of the bitmap is changed
pub sets_mark : (block n : ℕ) (value : Bool) (bitmap : Octets) (old : List Octets) → block / 32768 ≡ n → n < bitmap_blocks (length old)
    → n < length old
    → SetsBit (block % 32768) value (get_or old n []) bitmap → SetsMark block value old (set old n bitmap)
sets_mark block n value bitmap old is few there sets = record {
  count = length-set old n bitmap;
  whole = λ all. All-set (λ b. length b ≡ 4096) old n bitmap (sets.size ∙ all n [] there) all;
  here = mark_at (set old n bitmap) block ∙ ap (λ (k : ℕ). bit_of (get_or (set old n bitmap) k []) (block % 32768)) is
      ∙ ap (λ (o : Octets). bit_of o (block % 32768)) written ∙ sets.here;
  other = λ b small apart. elim (cases_eq (b / 32768) n) [
    | inl same ↦
        let differs : b % 32768 ≢ block % 32768 = omega arith in
        mark_at (set old n bitmap) b ∙ ap (λ (k : ℕ). bit_of (get_or (set old n bitmap) k []) (b % 32768)) same
        ∙ ap (λ (o : Octets). bit_of o (b % 32768)) written
        ∙ sets.other (b % 32768) differs
        ∙ ap (λ (k : ℕ). bit_of (get_or old k []) (b % 32768)) (sym same) ∙ sym (mark_at old b)
    | inr elsewhere ↦
        mark_at (set old n bitmap) b ∙ ap (λ (o : Octets). bit_of o (b % 32768)) (get_or-set_other old n (b / 32768) bitmap [] elsewhere)
        ∙ sym (mark_at old b)
  ];
  blocks = λ k high. get_or-set_other old n k bitmap [] (omega arith);
}
  where
    written : get_or (set old n bitmap) n [] ≡ bitmap
    written = get_or-set_same old n bitmap [] there

-- ---- the lowest free block

module _ (blocks : List Octets) where
  -- below a number none is free, so these bits are set
  pub bits_set : (n from b : ℕ) (bitmap : Octets) → bitmap ≡ get_or blocks n [] → NoneFreeBelow from blocks → b < 32768
      → 32768 * n + b < from → 32768 * n + b < length blocks → bit_of bitmap b ≡ true
  bits_set n from b bitmap is none low less within =
      let at : 32768 * n + b - 32768 * n ≡ b = omega arith in
      sym (mark_in blocks n (32768 * n + b) bitmap is (omega arith) (omega arith) ∙ ap (λ (k : ℕ). bit_of bitmap k) at)
      ∙ none (32768 * n + b) less within

  -- the marks in one block of the bitmap, of its first bits
  module _ (n count : ℕ) (bitmap : Octets) (is : bitmap ≡ get_or blocks n []) (few : count ≤ 32768) where
    mark_of : (b : ℕ) → 32768 * n ≤ b → b < 32768 * n + count → is_marked_used blocks b ≡ bit_of bitmap (b - 32768 * n)
    mark_of b low high = mark_in blocks n b bitmap is low (omega arith)

    pub lowest_is_marked : (bit : ℕ) → IsLowestClear bitmap count bit
        → (is_marked_used blocks (32768 * n + bit) ≡ false)
        × ((b : ℕ) → 32768 * n ≤ b → b < 32768 * n + bit → is_marked_used blocks b ≡ true)
    lowest_is_marked bit found =
        let at : 32768 * n + bit - 32768 * n ≡ bit = omega arith in (
          mark_of (32768 * n + bit) (omega arith) (omega (arith, found.below)) ∙ ap (λ (k : ℕ). bit_of bitmap k) at ∙ found.clear,
          λ b low high. mark_of b low (omega (arith, found.below)) ∙ found.lower (b - 32768 * n) (omega arith),
        )

    pub block_full : ((b : ℕ) → b < count → bit_of bitmap b ≡ true) → (b : ℕ) → 32768 * n ≤ b → b < 32768 * n + count
        → is_marked_used blocks b ≡ true
    block_full full b low high = mark_of b low high ∙ full (b - 32768 * n) (omega arith)

-- ---- how many blocks are free

-- the number of the blocks whose marks are in the first blocks of the bitmap, this many
abbrev pub up_to : ℕ → ℕ → ℕ
up_to tables count = count - (count - 32768 * tables)

-- the clear bits of one block of the bitmap more
pub free_in_more : (blocks : List Octets) (n some clear free : ℕ) (bitmap : Octets) → bitmap ≡ get_or blocks n []
    → some + up_to n (length blocks) ≡ up_to (n + 1) (length blocks)
    → clear ≡ count_by (λ bit. not (bit_of bitmap bit)) (range_with_len 0 some)
    → free ≡ count_by (λ b. not (is_marked_used blocks b)) (range_with_len 0 (up_to n (length blocks)))
    → free + clear ≡ count_by (λ b. not (is_marked_used blocks b)) (range_with_len 0 (up_to (n + 1) (length blocks)))
free_in_more blocks n some clear free bitmap is more counted so_far = elim (cases_eq some 0) [
  | inl none ↦
      let same : up_to n (length blocks) ≡ up_to (n + 1) (length blocks) = omega arith in
      let nothing : clear ≡ 0 = counted ∙ ap (λ (k : ℕ). count_by (λ bit. not (bit_of bitmap bit)) (range_with_len 0 k)) none in
      let sum : free + clear ≡ free = omega arith in
      sum ∙ so_far ∙ ap (λ (k : ℕ). count_by (λ b. not (is_marked_used blocks b)) (range_with_len 0 k)) same
  | inr some_bits ↦
      let start : up_to n (length blocks) ≡ 32768 * n = omega arith in
      let few : some ≤ 32768 = omega arith in
      let length_is : 32768 * n + some ≡ up_to (n + 1) (length blocks) = omega arith in
      let here : clear ≡ count_by (λ b. not (is_marked_used blocks b)) (range_with_len (0 + 32768 * n) some) =
      counted ∙ count_same (λ bit. not (bit_of bitmap bit)) (λ b. not (is_marked_used blocks b)) 0 (0 + 32768 * n) some
      (λ i low.
      let at : 0 + i ≡ i = omega arith in
      let there : 32768 * n + i ≡ 0 + 32768 * n + i = omega arith in
      ap not (ap (λ (k : ℕ). bit_of bitmap k) at ∙ ap (λ (o : Octets). bit_of o i) is
      ∙ sym (mark_is_bit blocks n i (omega arith)) ∙ ap (λ (k : ℕ). is_marked_used blocks k) there)) in
      ap (λ (m : ℕ). m + clear) so_far
      ∙ ap (λ (k : ℕ). count_by (λ b. not (is_marked_used blocks b)) (range_with_len 0 k) + clear) start
      ∙ ap (λ (m : ℕ). count_by (λ b. not (is_marked_used blocks b)) (range_with_len 0 (32768 * n)) + m) here
      ∙ sym (count_split (λ b. not (is_marked_used blocks b)) 0 (32768 * n) some)
      ∙ ap (λ (k : ℕ). count_by (λ b. not (is_marked_used blocks b)) (range_with_len 0 k)) length_is
]

pub count_none : (p : ℕ → Bool) (a n : ℕ) → ((i : ℕ) → i < n → p (a + i) ≡ false) → count_by p (range_with_len a n) ≡ 0
count_none p a n none = count_same p (λ i. false) a 0 n none ∙ never n
  where
    never : (n : ℕ) → count_by {X = ℕ} (λ i. false) (range_with_len 0 n) ≡ 0
    never zero = refl
    never (suc n) =
        let more : suc n ≡ n + 1 = omega arith in
        ap (λ (k : ℕ). count_by {X = ℕ} (λ i. false) (range_with_len 0 k)) more ∙ count_more (λ i. false) n
        ∙ (let z : count_by {X = ℕ} (λ i. false) (range_with_len 0 n) + 0 ≡ count_by {X = ℕ} (λ i. false) (range_with_len 0 n) =
        omega arith in z) ∙ never n

pub none_free : (blocks : List Octets) → HasNoFreeBlock blocks → free_blocks blocks ≡ 0
none_free blocks full =
    count_none (λ b. not (is_marked_used blocks b)) 0 (length blocks) (λ i low. let at : 0 + i ≡ i = omega arith in
    ap (λ (k : ℕ). not (is_marked_used blocks k)) at ∙ ap not (full i low))

-- one number fewer passes
pub count_one_less : (p q : ℕ → Bool) (b n : ℕ) → b < n → p b ≡ true → q b ≡ false → ((i : ℕ) → i < n → i ≢ b → q i ≡ p i)
    → count_by q (range_with_len 0 n) + 1 ≡ count_by p (range_with_len 0 n)
count_one_less p q b n low was is same =
    let whole : (b + 1) + (n - (b + 1)) ≡ n = omega arith in
    let front : count_by q (range_with_len 0 b) ≡ count_by p (range_with_len 0 b) =
    count_same q p 0 0 b (λ i less. let at : 0 + i ≡ i = omega arith in ap q at ∙ same i (omega arith) (omega arith) ∙ ap p (sym at)) in
    let rest : count_by q (range_with_len (0 + (b + 1)) (n - (b + 1))) ≡ count_by p (range_with_len (0 + (b + 1)) (n - (b + 1))) =
    count_same q p (0 + (b + 1)) (0 + (b + 1)) (n - (b + 1)) (λ i less. same (0 + (b + 1) + i) (omega arith) (omega arith)) in
    let splits_p = count_split p 0 (b + 1) (n - (b + 1)) in
    let splits_q = count_split q 0 (b + 1) (n - (b + 1)) in
    let one_p = count_more p b ∙ ap (λ (t : Bool). count_by p (range_with_len 0 b) + cond t 1 0) was in
    let one_q = count_more q b ∙ ap (λ (t : Bool). count_by q (range_with_len 0 b) + cond t 1 0) is in
    sums (ap (λ (k : ℕ). count_by p (range_with_len 0 k)) whole) (ap (λ (k : ℕ). count_by q (range_with_len 0 k)) whole) splits_p splits_q
    one_p one_q front rest
  where
    sums : {a a' b b' c c' d d' e e' : ℕ} → a ≡ b → a' ≡ b' → a ≡ c + d → a' ≡ c' + d' → c ≡ e + 1 → c' ≡ e' + 0 → e' ≡ e → d' ≡ d
        → b' + 1 ≡ b
    sums h1 h2 h3 h4 h5 h6 h7 h8 = omega arith

pub one_less_free : (block : ℕ) (old new : List Octets) → TakesBlock block old new
    → free_blocks new + 1 ≡ free_blocks old
one_less_free block old new takes =
    ap (λ (n : ℕ). count_by (λ b. not (is_marked_used new b)) (range_with_len 0 n) + 1) takes.sets.count
    ∙ count_one_less (λ b. not (is_marked_used old b)) (λ b. not (is_marked_used new b)) block (length old) takes.lowest.below
    (ap not takes.lowest.free) (ap not takes.sets.here) (λ i low apart. ap not (takes.sets.other i (omega arith) apart))

-- below a number none is free still
pub none_after_taken : (n block : ℕ) (old new : List Octets) → TakesBlock block old new → NoneFreeBelow n old
    → NoneFreeBelow n new
none_after_taken n block old new takes none b less low = elim (cases_eq b block) [
  | inl same ↦ ap (λ (k : ℕ). is_marked_used new k) same ∙ takes.sets.here
  | inr other ↦
      let there : b < length old = omega (arith, low, takes.sets.count) in
      takes.sets.other b (omega (arith, there)) other ∙ none b less there
]

-- the same marks
pub same_free : (old new : List Octets) → length new ≡ length old → ((b : ℕ) → b < length old → is_marked_used new b ≡ is_marked_used old b)
    → free_blocks new ≡ free_blocks old
same_free old new count same =
    ap (λ (n : ℕ). count_by (λ b. not (is_marked_used new b)) (range_with_len 0 n)) count
    ∙ count_same (λ b. not (is_marked_used new b)) (λ b. not (is_marked_used old b)) 0 0 (length old) (λ i low. let at : 0 + i ≡ i =
    omega arith in ap (λ (k : ℕ). not (is_marked_used new k)) at ∙ ap not (same i low)
    ∙ ap (λ (k : ℕ). not (is_marked_used old k)) (sym at))
