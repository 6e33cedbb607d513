-- The bits of octets, set and clear.
use Rattle.std.proofs.Common.{◌≡◌, ◌<◌, ◌≤◌, inl, inr, ℕ, zero, suc, ◌+◌, ◌-◌, ◌*◌, not, Bool, true, false}
use Rattle.std.proofs.Common.{count_by, map, List, [], get_or, length, refl, sym, ◌∙◌, ap, arith}
use Rattle.std.specs.List.{range_with_len, sum_by}
use Rattle.std.proofs.lemmas.List.Sums.{sum_by-cons}
use Rattle.std.proofs.lemmas.List.Elements.{All-get_or}
use Rattle.std.proofs.lemmas.List.FromFn.{length-range_with_len}
use Rattle.model.specs.Files.{HasRoom, IsFileSystem, bitmap_bits, bitmap_blocks, free_blocks, is_marked_used}
use Rattle.model.specs.Stream.{Octets}
use Rattle.fs_layout.specs.Bits.{bit_of}
use Rattle.fs_layout.proofs.Counts.{count_same, count_split, mark_is_bit}
use Rattle.fs_layout.proofs.OctetBits.{count_not}
use Rattle.fs_layout.proofs.Marking.{count_none}
use Rattle.volume_usage.specs.Usage.{BitsAreUsedBlocks, all_marked, marked, used_in}

-- the bits that aren't clear are set
pub set_rest : (octets : Octets) (clear : ℕ) → clear ≡ count_by (λ bit. not (bit_of octets bit)) (range_with_len 0 (8 * length octets))
    → 8 * length octets - clear ≡ used_in octets
set_rest octets clear is =
    let all = count_not (λ bit. bit_of octets bit) (range_with_len 0 (8 * length octets)) in
    let many = length-range_with_len 0 (8 * length octets) in
    omega (arith, all, many, is)

-- ---- the blocks of a bitmap

-- the set bits of a block are the marks of its blocks
bits_of_block : (blocks : List Octets) (n : ℕ) → length (get_or blocks n []) ≡ 4096
    → used_in (get_or blocks n []) ≡ count_by (is_marked_used blocks) (range_with_len (32768 * n) 32768)
bits_of_block blocks n whole =
    let size : 8 * length (get_or blocks n []) ≡ 32768 = omega (arith, whole) in
    ap (λ (k : ℕ). count_by (bit_of (get_or blocks n [])) (range_with_len 0 k)) size
    ∙ count_same (bit_of (get_or blocks n [])) (is_marked_used blocks) 0 (32768 * n) 32768
    (λ i low. ap (bit_of (get_or blocks n [])) (at i) ∙ sym (mark_is_bit blocks n i low))
  where
    at : (i : ℕ) → 0 + i ≡ i
    at i = omega arith

-- the set bits of some blocks of the bitmap
bits_of_blocks : (blocks : List Octets) (a n : ℕ) → ((k : ℕ) → k < a + n → length (get_or blocks k []) ≡ 4096)
    → sum_by (λ n. n) (map (marked blocks) (range_with_len a n)) ≡ count_by (is_marked_used blocks) (range_with_len (32768 * a) (32768 * n))
bits_of_blocks blocks a zero whole =
    let none : 32768 * 0 ≡ 0 = omega arith in
    sym (ap (λ (k : ℕ). count_by (is_marked_used blocks) (range_with_len (32768 * a) k)) none)
bits_of_blocks blocks a (suc n) whole =
    let later : 32768 * (a + 1) ≡ 32768 * a + 32768 = omega arith in
    let more : 32768 + 32768 * n ≡ 32768 * suc n = omega arith in
    sum_by-cons (λ n. n) (marked blocks a) (map (marked blocks) (range_with_len (a + 1) n))
    ∙ ap (λ (m : ℕ). m + sum_by (λ n. n) (map (marked blocks) (range_with_len (a + 1) n))) (bits_of_block blocks a (whole a (omega arith)))
    ∙ ap (λ (m : ℕ). count_by (is_marked_used blocks) (range_with_len (32768 * a) 32768) + m)
    (bits_of_blocks blocks (a + 1) n (λ k low. whole k (omega arith))
    ∙ ap (λ (k : ℕ). count_by (is_marked_used blocks) (range_with_len k (32768 * n))) later)
    ∙ sym (count_split (is_marked_used blocks) (32768 * a) 32768 (32768 * n))
    ∙ ap (λ (k : ℕ). count_by (is_marked_used blocks) (range_with_len (32768 * a) k)) more

module _ (inodes : ℕ) (blocks : List Octets) (room : HasRoom inodes blocks) (fs : IsFileSystem inodes blocks) where
  -- no block past the last is marked
  unmarked : (b : ℕ) → b < bitmap_bits (length blocks) → length blocks ≤ b → is_marked_used blocks b ≡ false
  unmarked b small past = by_mark (is_marked_used blocks b) refl where
    by_mark : (t : Bool) → is_marked_used blocks b ≡ t → is_marked_used blocks b ≡ false
    by_mark false is = is
    by_mark true is = absurd (elim ((fs.bits b small).0 is) [
      | inl reserved ↦ (let low = room.room in omega (arith, reserved, low, past))
      | inr its ↦ (let below = (fs.within its.0 b its.1 its.2).1 in omega (arith, below, past))
    ])

  past_last : (k : ℕ) → length blocks + k ≡ bitmap_bits (length blocks)
      → count_by (is_marked_used blocks) (range_with_len (0 + length blocks) k) ≡ 0
  past_last k size =
      count_none (is_marked_used blocks) (0 + length blocks) k
      (λ i low. unmarked (0 + length blocks + i) (omega (arith, low, size)) (omega arith))

  whole_block : (k : ℕ) → k < 0 + bitmap_blocks (length blocks) → length (get_or blocks k []) ≡ 4096
  whole_block k low =
      All-get_or (λ octets. length octets ≡ 4096) blocks k []
      (let some = room.room in omega (arith, some, low)) room.blocks_whole

  size : length blocks + (bitmap_bits (length blocks) - length blocks) ≡ bitmap_bits (length blocks)
  size = omega arith

  sums : (n all up past free : ℕ) → all ≡ up + past → past ≡ 0 → up + free ≡ n → all + free ≡ n
  sums n all up past free split none marked = omega (arith, split, none, marked)

  pub all_blocks : all_marked blocks + free_blocks blocks ≡ length blocks
  all_blocks =
      let start : 32768 * 0 ≡ 0 = omega arith in
      sums (length blocks) _ _ _ _
      (bits_of_blocks blocks 0 (bitmap_blocks (length blocks)) whole_block
      ∙ ap (λ (k : ℕ). count_by (is_marked_used blocks) (range_with_len k (bitmap_bits (length blocks)))) start
      ∙ ap (λ (k : ℕ). count_by (is_marked_used blocks) (range_with_len 0 k)) (sym size)
      ∙ count_split (is_marked_used blocks) 0 (length blocks) (bitmap_bits (length blocks) - length blocks))
      (past_last (bitmap_bits (length blocks) - length blocks) size)
      (count_not (is_marked_used blocks) (range_with_len 0 (length blocks)) ∙ length-range_with_len 0 (length blocks))

pub bits_used : BitsAreUsedBlocks
bits_used inodes blocks room fs = all_blocks inodes blocks room fs
