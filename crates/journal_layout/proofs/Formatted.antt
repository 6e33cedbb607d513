-- What the writes of a new volume leave.
use Rattle.std.proofs.Common.{
  ◌≡◌,
  ◌⊎◌,
  inl,
  inr,
  ◌<◌,
  ◌≤◌,
  ℕ,
  ◌+◌,
  ◌-◌,
  ◌*◌,
  Bool,
  false,
  true,
  cond,
  eqb,
  List,
  [],
  ◌∷◌,
  length,
  get_or,
  take,
  drop,
  length-drop,
}
use Rattle.std.proofs.Common.{replicate, refl, sym, ◌∙◌, ap, subst, arith}
use Rattle.std.specs.List.{All}
use Rattle.std.proofs.lemmas.Bool.{cases_eq}
use Rattle.std.proofs.lemmas.List.{ext_get_or, get_or-drop, get_or-replicate, length-replicate}
use Rattle.std.proofs.lemmas.List.Elements.{All-from_get_or, All-get_or}
use Rattle.byteorder.specs.Endian.{little_bytes}
use Rattle.disk.specs.Image.{part, overwritten}
use Rattle.disk.proofs.Images.{length-overwritten, overwritten_above, overwritten_inside, part-overwritten, part-overwritten_apart}
use Rattle.journal_layout.specs.Formatting.{zero_block, zeroed}
use Rattle.model.specs.Volume.{
  block,
  epoch_in,
  epoch_of,
  format_in,
  format_number,
  gate_place,
  home,
  home_place,
  home_size,
  IsSuperblock,
  is_open,
  label_of,
}
use Rattle.model.specs.Volume.{magic, number_at, open_segments, segment_count, StandsFor, superblock_used}
use Rattle.journal_laws.proofs.Blocks.{overwritten_same, block-overwritten}
use Rattle.disk_numbers.proofs.Numbers.{number_at_apart, number_at_written}
use Rattle.journal_laws.proofs.Standing.{get_or-home, length-home, none_are_open, stands_bare}

abbrev pub IsZero : ℕ → Type 0
IsZero octet = octet ≡ 0

-- 4,096 zeros are the zero block
pub is_zero_block : (xs : List ℕ) → length xs ≡ 4096 → All IsZero xs → xs ≡ zero_block
unfolding zero_block
is_zero_block xs size zero =
    ext_get_or 0 xs (replicate (length xs) 0) (sym (length-replicate (length xs) 0)) (λ i within. All-get_or IsZero xs i 0 within zero
    ∙ sym (get_or-replicate (length xs) i 0 0 within))
    ∙ ap (λ (n : ℕ). replicate n 0) size

-- the superblock, written part by part
module _ (old label : List ℕ) (segments blocks gate_2 gate_3 : ℕ) (counts : (segments ≡ 1) ⊎ (segments ≡ 8)) (whole : length old ≡ 4096)
    (zero : All IsZero old) (label_size : length label ≡ 128) (low : 1024 ≤ blocks) (high : blocks ≤ 4194304) where
  abbrev first : List ℕ
  first = overwritten 0 magic old

  abbrev second : List ℕ
  second = overwritten 8 (little_bytes 4 1) first

  abbrev third : List ℕ
  third = overwritten 12 (little_bytes 4 blocks) second

  abbrev fourth : List ℕ
  fourth = overwritten 16 (little_bytes 4 segments) third

  abbrev fifth : List ℕ
  fifth = overwritten 20 label fourth

  abbrev pub superblock : List ℕ
  superblock = overwritten 148 (gate_2 ∷ gate_3 ∷ []) fifth

  size1 : length first ≡ 4096
  size1 = length-overwritten 0 magic old (omega (arith, whole)) ∙ whole

  size2 : length second ≡ 4096
  size2 = length-overwritten 8 (little_bytes 4 1) first (omega (arith, size1)) ∙ size1

  size3 : length third ≡ 4096
  size3 = length-overwritten 12 (little_bytes 4 blocks) second (omega (arith, size2)) ∙ size2

  size4 : length fourth ≡ 4096
  size4 = length-overwritten 16 (little_bytes 4 segments) third (omega (arith, size3)) ∙ size3

  fits : 20 + length label ≤ length fourth
  fits = omega (arith, size4, label_size)

  size5 : length fifth ≡ 4096
  size5 = length-overwritten 20 label fourth fits ∙ size4

  pub length-superblock : length superblock ≡ 4096
  length-superblock = length-overwritten 148 (gate_2 ∷ gate_3 ∷ []) fifth (omega (arith, size5)) ∙ size5

  begins : take 8 superblock ≡ magic
  begins =
      part-overwritten_apart 148 (gate_2 ∷ gate_3 ∷ []) fifth (omega (arith, size5)) 0 8 (inl (omega arith))
      ∙ part-overwritten_apart 20 label fourth fits 0 8 (inl (omega arith))
      ∙ part-overwritten_apart 16 (little_bytes 4 segments) third (omega (arith, size3)) 0 8 (inl (omega arith))
      ∙ part-overwritten_apart 12 (little_bytes 4 blocks) second (omega (arith, size2)) 0 8 (inl (omega arith))
      ∙ part-overwritten_apart 8 (little_bytes 4 1) first (omega (arith, size1)) 0 8 (inl (omega arith))
      ∙ part-overwritten 0 magic old (omega (arith, whole))

  version_is : number_at 8 4 superblock ≡ 1
  version_is =
      number_at_apart 148 (gate_2 ∷ gate_3 ∷ []) fifth (omega (arith, size5)) 8 4 (inl (omega arith))
      ∙ number_at_apart 20 label fourth fits 8 4 (inl (omega arith))
      ∙ number_at_apart 16 (little_bytes 4 segments) third (omega (arith, size3)) 8 4 (inl (omega arith))
      ∙ number_at_apart 12 (little_bytes 4 blocks) second (omega (arith, size2)) 8 4 (inl (omega arith))
      ∙ number_at_written 8 4 1 first (omega (arith, size1)) (omega arith)

  pub blocks_are : number_at 12 4 superblock ≡ blocks
  blocks_are =
      number_at_apart 148 (gate_2 ∷ gate_3 ∷ []) fifth (omega (arith, size5)) 12 4 (inl (omega arith))
      ∙ number_at_apart 20 label fourth fits 12 4 (inl (omega arith))
      ∙ number_at_apart 16 (little_bytes 4 segments) third (omega (arith, size3)) 12 4 (inl (omega arith))
      ∙ number_at_written 12 4 blocks second (omega (arith, size2)) (omega (arith, high))

  few : segments ≤ 8
  few = elim counts [
    | inl one ↦ omega (arith, one)
    | inr eight ↦ omega (arith, eight)
  ]

  pub segments_are : number_at 16 4 superblock ≡ segments
  segments_are =
      number_at_apart 148 (gate_2 ∷ gate_3 ∷ []) fifth (omega (arith, size5)) 16 4 (inl (omega arith))
      ∙ number_at_apart 20 label fourth fits 16 4 (inl (omega arith))
      ∙ number_at_written 16 4 segments third (omega (arith, size3)) (omega (arith, few))

  pub label_is : part 20 128 superblock ≡ label
  label_is =
      part-overwritten_apart 148 (gate_2 ∷ gate_3 ∷ []) fifth (omega (arith, size5)) 20 128 (inl (omega arith))
      ∙ ap (λ (n : ℕ). part 20 n fifth) (sym label_size) ∙ part-overwritten 20 label fourth fits

  pub second_is : get_or superblock 148 0 ≡ gate_2
  second_is = overwritten_inside 148 (gate_2 ∷ gate_3 ∷ []) fifth (omega (arith, size5)) 148 0 (omega arith) (omega arith)

  pub third_is : get_or superblock 149 0 ≡ gate_3
  third_is = overwritten_inside 148 (gate_2 ∷ gate_3 ∷ []) fifth (omega (arith, size5)) 149 0 (omega arith) (omega arith)

  -- the octets after the gates of the formats
  zero_after : (k : ℕ) → 150 ≤ k → k < 4096 → IsZero (get_or superblock k 0)
  zero_after k after within =
      overwritten_above 148 (gate_2 ∷ gate_3 ∷ []) fifth (omega (arith, size5)) k 0 (omega arith)
      ∙ overwritten_above 20 label fourth fits k 0 (omega (arith, label_size))
      ∙ overwritten_above 16 (little_bytes 4 segments) third (omega (arith, size3)) k 0 (omega arith)
      ∙ overwritten_above 12 (little_bytes 4 blocks) second (omega (arith, size2)) k 0 (omega arith)
      ∙ overwritten_above 8 (little_bytes 4 1) first (omega (arith, size1)) k 0 (omega arith)
      ∙ overwritten_above 0 magic old (omega (arith, whole)) k 0 (omega arith)
      ∙ All-get_or IsZero old k 0 (omega (arith, whole)) zero

  zeros_stay : All IsZero (drop superblock_used superblock)
  zeros_stay = All-from_get_or IsZero (drop superblock_used superblock) 0 each
    where
      each : (i : ℕ) → i < length (drop superblock_used superblock) → IsZero (get_or (drop superblock_used superblock) i 0)
      each i within =
          get_or-drop superblock_used superblock i 0
          ∙ zero_after (superblock_used + i) (omega arith) (omega (arith, length-drop superblock_used superblock, length-superblock))

  -- the first epoch
  pub epoch_is_1 : epoch_in superblock ≡ 1
  epoch_is_1 = ap (λ (n : ℕ). cond (eqb n 2) 2 1) (zero_after 150 (omega arith) (omega arith))

  pub superblock_valid : IsSuperblock superblock (4096 * home_place segments blocks)
  superblock_valid = record {
    begins = begins;
    version_is = version_is;
    low = omega (arith, blocks_are, low);
    high = omega (arith, blocks_are, high);
    segments = subst (λ (n : ℕ). (n ≡ 1) ⊎ (n ≡ 8)) (sym segments_are) counts;
    zeros = zeros_stay;
    exactly = omega (arith, blocks_are, segments_are);
  }

-- one more block is written
pub blocks_more : (k : ℕ) (octets old new : List ℕ) → new ≡ overwritten (4096 * k) octets old → length octets ≡ 4096
    → 4096 * k + 4096 ≤ length old → ((j : ℕ) → 0 < j → j < k → block j old ≡ octets) → (j : ℕ) → 0 < j → j < k + 1 → block j new ≡ octets
blocks_more k octets old new is whole room so_far j some low =
    let fits : 4096 * k + length octets ≤ length old = omega (arith, whole, room) in
    ap (block j) is
    ∙ elim (cases_eq j k) [
      | inl same ↦ ap (λ (i : ℕ). block i (overwritten (4096 * k) octets old)) same ∙ block-overwritten k octets old whole fits
      | inr other ↦ (overwritten_same k octets old (omega (arith, whole)) fits).same j other ∙ so_far j some (omega arith)
    ]

-- no epoch is 0
no_epoch : (is_second : Bool) → eqb 0 (cond is_second 2 1) ≡ false
no_epoch false = refl
no_epoch true = refl

-- a gate of zeros is closed
pub shut_gate : (x octets : List ℕ) (s : ℕ) → length octets ≡ 4096 → All IsZero octets → block (gate_place s) x ≡ octets → is_open s x ≡
    false
shut_gate x octets s whole zero is =
    ap (λ (n : ℕ). eqb n (epoch_of x)) (ap (λ (b : List ℕ). get_or b 0 0) is ∙ All-get_or IsZero octets 0 0 (omega (arith, whole)) zero)
    ∙ no_epoch (eqb (get_or (block 0 x) 150 0) 2)

-- the volume, once each block is written
pub stands_formatted : (segments blocks : ℕ) (octets super old new label : List ℕ) → length old ≡ 4096 * home_place segments blocks
    → length octets ≡ 4096 → All IsZero octets → length super ≡ 4096 → IsSuperblock super (4096 * home_place segments blocks)
    → number_at 12 4 super ≡ blocks → number_at 16 4 super ≡ segments → part 20 128 super ≡ label
    → ((k : ℕ) → 0 < k → k < home_place segments blocks → block k old ≡ octets) → new ≡ overwritten 0 super old
    → StandsFor new label (zeroed blocks)
stands_formatted segments blocks octets super old new label size whole zero super_size valid blocks_is segments_is label_is written is =
    subst (λ (x : List ℕ). StandsFor x label (zeroed blocks)) (sym is)
    (subst (λ (l : List ℕ). StandsFor image l (zeroed blocks)) (ap (λ (b : List ℕ). part 20 128 b) first ∙ label_is)
    (subst (λ (bs : List (List ℕ)). StandsFor image (label_of image) bs) home_zeroed (stands_bare image has_superblock none)))
  where
    image : List ℕ
    image = overwritten (4096 * 0) super old

    fits : 4096 * 0 + length super ≤ length old
    fits = omega (arith, super_size, size)

    first : block 0 image ≡ super
    first = block-overwritten 0 super old super_size fits

    rest : (k : ℕ) → 0 < k → k < home_place segments blocks → block k image ≡ octets
    rest k some low = (overwritten_same 0 super old (omega (arith, super_size)) fits).same k (λ e. absurd (omega arith))
        ∙ written k some low

    image_size : length image ≡ 4096 * home_place segments blocks
    image_size = length-overwritten (4096 * 0) super old fits ∙ size

    has_superblock : IsSuperblock (block 0 image) (length image)
    has_superblock = subst (λ (n : ℕ). IsSuperblock (block 0 image) n) (sym image_size)
        (subst (λ (b : List ℕ). IsSuperblock b (4096 * home_place segments blocks)) (sym first) valid)

    home_is : home_size image ≡ blocks
    home_is = ap (number_at 12 4) first ∙ blocks_is

    count_is : segment_count image ≡ segments
    count_is = ap (number_at 16 4) first ∙ segments_is

    none : open_segments image ≡ []
    none = none_are_open image (λ s low. shut_gate image octets s whole zero
        (rest (gate_place s) (omega arith) (omega (arith, low, count_is))))

    home_zeroed : home image ≡ zeroed blocks
    home_zeroed = ext_get_or [] (home image) (zeroed blocks) (length-home image ∙ home_is ∙ sym (length-replicate blocks zero_block)) each
      where
        each : (k : ℕ) → k < length (home image) → get_or (home image) k [] ≡ get_or (zeroed blocks) k []
        each k within =
            let inside : k < home_size image = omega (arith, length-home image) in
            let low : k < blocks = omega (arith, home_is, inside) in
            get_or-home image k inside ∙ rest (home_place (segment_count image) k) (omega arith) (omega (arith, low, count_is))
            ∙ is_zero_block octets whole zero ∙ sym (get_or-replicate blocks k zero_block [] low)

-- its segments are closed
pub none_formatted : (segments blocks : ℕ) (octets super old new : List ℕ) → length old ≡ 4096 * home_place segments blocks
    → length octets ≡ 4096 → All IsZero octets → length super ≡ 4096 → number_at 16 4 super ≡ segments
    → ((k : ℕ) → 0 < k → k < home_place segments blocks → block k old ≡ octets) → new ≡ overwritten 0 super old → open_segments new ≡ []
none_formatted segments blocks octets super old new size whole zero super_size segments_are written is =
    let fits : 4096 * 0 + length super ≤ length old = omega (arith, super_size, size) in
    let image = overwritten (4096 * 0) super old in
    let count : segment_count image ≡ segments = ap (number_at 16 4) (block-overwritten 0 super old super_size fits) ∙ segments_are in
    ap open_segments is
    ∙ none_are_open image (λ s low.
    shut_gate image octets s whole zero
    ((overwritten_same 0 super old (omega (arith, super_size)) fits).same (gate_place s) (λ e. absurd (omega (arith, e)))
    ∙ written (gate_place s) (omega arith) (omega (arith, low, count))))

-- how many they are
pub counted_formatted : (segments : ℕ) (super old new : List ℕ) → 4096 ≤ length old → length super ≡ 4096 → number_at 16 4 super ≡ segments
    → new ≡ overwritten 0 super old → segment_count new ≡ segments
counted_formatted segments super old new size super_size segments_are is =
    ap segment_count is ∙ ap (number_at 16 4) (block-overwritten 0 super old super_size (omega (arith, super_size, size))) ∙ segments_are

-- the format of the volume
pub format_formatted : (format : ℕ) (super old new : List ℕ) → 4096 ≤ length old → length super ≡ 4096 → format_in super ≡ format
    → new ≡ overwritten 0 super old → format_number new ≡ format
format_formatted format super old new size super_size format_is is =
    ap format_number is ∙ ap format_in (block-overwritten 0 super old super_size (omega (arith, super_size, size))) ∙ format_is

-- the octets at the gates say the format
abbrev second_for : ℕ → ℕ
second_for format = cond (eqb format 1) 0 2

abbrev third_for : ℕ → ℕ
third_for format = cond (eqb format 3) 3 0

abbrev told_by : ℕ → ℕ → ℕ
told_by second third = cond (eqb third 3) 3 (cond (eqb second 2) 2 1)

pub told_by_gates : (format : ℕ) (super : List ℕ) → 1 ≤ format → format ≤ 3 → get_or super 148 0 ≡ second_for format
    → get_or super 149 0 ≡ third_for format → format_in super ≡ format
told_by_gates format super low high second third = elim (cases_eq format 1) [
  | inl one ↦ told 1 one ∙ sym one
  | inr more ↦ elim (cases_eq format 2) [
    | inl two ↦ told 2 two ∙ sym two
    | inr last ↦ let three : format ≡ 3 = omega (arith, low, high, more, last) in told 3 three ∙ sym three
  ]
] where
  told : (n : ℕ) → format ≡ n → format_in super ≡ told_by (second_for n) (third_for n)
  told n is =
      let its_second : get_or super 148 0 ≡ second_for n = second ∙ ap (λ (f : ℕ). second_for f) is in
      let its_third : get_or super 149 0 ≡ third_for n = third ∙ ap (λ (f : ℕ). third_for f) is in
      ap (λ (n : ℕ). told_by n (get_or super 149 0)) its_second ∙ ap (λ (m : ℕ). told_by (second_for n) m) its_third
