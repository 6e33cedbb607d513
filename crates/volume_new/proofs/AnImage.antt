-- An image that stands for the spool without changes: that of a new volume.
use Rattle.std.proofs.Common.{◌≡◌, ◌⊎◌, inl, inr, ◌<◌, ◌≤◌, ltb, ℕ, zero, suc, ◌+◌, ◌-◌, ◌*◌, ◌/◌, ◌%◌, ◌^◌, eqb, List, [], ◌∷◌}
use Rattle.std.proofs.Common.{length, get_or, map, replicate, set, refl, sym, ◌∙◌, ap, subst, arith, length-append, length-set}
use Rattle.std.specs.Prelude.{IsTrue, nat_le}
use Rattle.std.specs.List.{All}
use Rattle.std.proofs.Math.Nat.{zero-div}
use Rattle.std.proofs.lemmas.Bool.{and_parts, cases_eq, cases_lt, le-ltb, leb-true}
use Rattle.std.proofs.lemmas.List.{ext_get_or, get_or-set_other, get_or-set_same, length-replicate}
use Rattle.std.proofs.lemmas.List.Elements.{All-replicate}
use Rattle.disk.specs.Image.{overwritten}
use Rattle.model.specs.Files.{first_data, most_blocks}
use Rattle.model.specs.Layout.{Stands, label_octets}
use Rattle.model.specs.Names.{is_host}
use Rattle.model.specs.Stream.{Octets}
use Rattle.model.specs.Volume.{StandsFor, all_laid_over, batch_in, block, epoch_in, gate_place, home, home_place, home_size, is_open}
use Rattle.model.specs.Volume.{number_at, open_segments, rising, segment_count}
use Rattle.model.proofs.Images.{empty_stands}
use Rattle.model.proofs.Owning.{zero_at}
use Rattle.journal_laws.specs.Images.{IsInside, IsOpenIn, SameBut}
use Rattle.journal_laws.proofs.Blocks.{block-overwritten, overwritten_same}
use Rattle.journal_laws.proofs.Standing.{count_same, gate_same, get_or-home, head_same, home_size_same, length-home, stands_over}
use Rattle.fs_blocks.proofs.Octets.{length-block}
use Rattle.journal_layout.specs.Formatting.{zero_block, zeroed}
use Rattle.journal_layout.proofs.Formatted.{blocks_are, label_is, length-superblock, none_formatted, segments_are, stands_formatted, IsZero}
use Rattle.journal_layout.proofs.Formatted.{superblock, superblock_valid, is_zero_block}
use Rattle.fs_layout.specs.Bits.{bit_of}
use Rattle.fs.specs.Emptying.{Emptied, MarksFirst}
use Rattle.fs.proofs.Emptying.{emptied_more, emptied_none}
use Rattle.volume_new.specs.Formatting.{tables_of}
use Rattle.volume_new.specs.Laws.{AnImageStands, EachHostHasAnImage}
use Rattle.volume_new.proofs.Emptied.{Sized, as_many, labelled, makes, many, part_zero, sized, zero_block_size, zero_block_zero}

-- ---- the first block is written at home, while no segment is open

module _ (x label first : List ℕ) (blocks : List (List ℕ)) (stands : StandsFor x label blocks) (none : open_segments x ≡ [])
    (whole : length first ≡ 4096) where
  abbrev written : List ℕ
  written = overwritten (4096 * home_place (segment_count x) 0) first x

  fits : 4096 * home_place (segment_count x) 0 + length first ≤ length x
  fits = let its = stands.has_superblock in omega (arith, its.exactly, its.low, whole)

  others : SameBut (λ k. k ≡ home_place (segment_count x) 0) x written
  others = overwritten_same (home_place (segment_count x) 0) first x (omega (arith, whole)) fits

  zeroth : block 0 written ≡ block 0 x
  zeroth = others.same 0 (λ e. absurd (omega (arith, e)))

  gates : (s : ℕ) → s < segment_count x → is_open s written ≡ is_open s x
  gates s there = gate_same s x written (ap epoch_in zeroth) (others.same (gate_place s) (λ e. absurd (omega (arith, e, there))))

  inside : (s : ℕ) → IsOpenIn s x → (k : ℕ) → IsInside s k → block k written ≡ block k x
  inside s opened k here = others.same k (λ e. absurd (omega (arith, e, here.1, opened.0)))

  home_before : home x ≡ blocks
  home_before = sym (ap (λ (ss : List ℕ). all_laid_over (home x) (rising (map (λ s. batch_in s x) ss))) none) ∙ stands.has_blocks

  some : 0 < length blocks
  some = omega (arith, ap length home_before, length-home x, stands.has_superblock.low)

  size_same : home_size written ≡ home_size x
  size_same = home_size_same x written zeroth others.size

  at_home : (k : ℕ) → k < home_size x → block (home_place (segment_count x) k) written ≡ get_or (set blocks 0 first) k []
  at_home k within = elim (cases_eq k 0) [
    | inl is ↦
        ap (λ (n : ℕ). block (home_place (segment_count x) n) written) is
        ∙ block-overwritten (home_place (segment_count x) 0) first x whole fits
        ∙ sym (ap (λ (n : ℕ). get_or (set blocks 0 first) n []) is ∙ get_or-set_same blocks 0 first [] some)
    | inr other ↦
        others.same (home_place (segment_count x) k) (λ e. absurd (omega (arith, e, other))) ∙ sym (get_or-home x k within)
        ∙ ap (λ (bs : List (List ℕ)). get_or bs k []) home_before ∙ sym (get_or-set_other blocks 0 k first [] other)
  ]

  home_after : home written ≡ set blocks 0 first
  home_after =
      ext_get_or [] (home written) (set blocks 0 first) (length-home written ∙ size_same ∙ sym (length-home x) ∙ ap length home_before
      ∙ sym (length-set blocks 0 first))
      (λ k within.
      let low : k < home_size x = omega (arith, within, length-home written, size_same) in
      get_or-home written k (omega (arith, low, size_same))
      ∙ ap (λ (s : ℕ). block (home_place s k) written) (count_same x written zeroth others.size) ∙ at_home k low)

  pub first_written : StandsFor written label (set blocks 0 first)
  first_written =
      subst (λ (bs : List (List ℕ)). StandsFor written label bs)
      (ap (λ (ss : List ℕ). all_laid_over (home written) (rising (map (λ s. batch_in s x) ss))) none ∙ home_after)
      (stands_over x written label blocks stands (head_same x written zeroth others.size) gates inside)

-- ---- a volume whose blocks are zeros but the first; the gates are those of format 3

module _ (segments : ℕ) (counts : (segments ≡ 1) ⊎ (segments ≡ 8)) (blocks : ℕ) (label first : List ℕ) (low : 1024 ≤ blocks)
    (high : blocks ≤ most_blocks) (label_whole : length label ≡ 128) (whole : length first ≡ 4096) where
  abbrev octets : ℕ
  octets = 4096 * home_place segments blocks

  abbrev bare : List ℕ
  bare = replicate octets 0

  bare_size : length bare ≡ octets
  bare_size = length-replicate {A = ℕ} octets 0

  bare_block : (k : ℕ) → 0 < k → k < home_place segments blocks → block k bare ≡ zero_block
  bare_block k some within = is_zero_block (block k bare) (length-block k bare (omega (arith, within, bare_size)))
      (part_zero k bare (All-replicate IsZero octets 0 refl))

  abbrev its_superblock : List ℕ
  its_superblock = superblock zero_block label segments blocks 2 3 counts zero_block_size zero_block_zero label_whole low high

  its_size : length its_superblock ≡ 4096
  its_size = length-superblock zero_block label segments blocks 2 3 counts zero_block_size zero_block_zero label_whole low high

  its_segments : number_at 16 4 its_superblock ≡ segments
  its_segments = segments_are zero_block label segments blocks 2 3 counts zero_block_size zero_block_zero label_whole low high

  abbrev zeroed_volume : List ℕ
  zeroed_volume = overwritten 0 its_superblock bare

  zeroed_stands : StandsFor zeroed_volume label (zeroed blocks)
  zeroed_stands =
      stands_formatted segments blocks zero_block its_superblock bare zeroed_volume label bare_size zero_block_size zero_block_zero its_size
      (superblock_valid zero_block label segments blocks 2 3 counts zero_block_size zero_block_zero label_whole low high)
      (blocks_are zero_block label segments blocks 2 3 counts zero_block_size zero_block_zero label_whole low high) its_segments
      (label_is zero_block label segments blocks 2 3 counts zero_block_size zero_block_zero label_whole low high) bare_block refl

  none_open : open_segments zeroed_volume ≡ []
  none_open = none_formatted segments blocks zero_block its_superblock bare zeroed_volume bare_size zero_block_size zero_block_zero its_size
      its_segments bare_block refl

  pub volume_with : (image : List ℕ) × StandsFor image label (set (zeroed blocks) 0 first)
  volume_with = (
    written zeroed_volume label first (zeroed blocks) zeroed_stands none_open whole,
    first_written zeroed_volume label first (zeroed blocks) zeroed_stands none_open whole,
  )

-- ---- the first block is the bitmap of the empty file system, which has all its marks

module _ (blocks inodes : ℕ) (its : Sized blocks inodes) (bitmap : Octets) (one : tables_of (first_data blocks inodes) ≡ 1)
    (marks : MarksFirst 0 (first_data blocks inodes) bitmap) (host : Octets) (named : IsTrue (is_host host)) where
  short : length host ≤ 64
  short = leb-true (length host) 64 (and_parts (nat_le (length host) 64) _ named).0

  label_whole : length (label_octets inodes host) ≡ 128
  label_whole = omega (arith, short, length-append host (replicate (123 - length host) 0), length-replicate {A = ℕ} (123 - length host) 0)

  abbrev its_blocks : List Octets
  its_blocks = set (zeroed blocks) 0 bitmap

  done : Emptied (first_data blocks inodes) (tables_of (first_data blocks inodes)) (zeroed blocks) its_blocks
  done =
      subst (λ (n : ℕ). Emptied (first_data blocks inodes) n (zeroed blocks) its_blocks) (sym one)
      (emptied_more (first_data blocks inodes) 0 (zeroed blocks) (zeroed blocks) its_blocks
      (emptied_none (first_data blocks inodes) (zeroed blocks))
      (omega (arith, its.low, many blocks inodes its)) (record { bitmap = bitmap; marks = marks; puts = refl }))

  pub new_image : (image : Octets) × Stands host image []
  new_image =
      let made = makes blocks inodes its its_blocks done in
      let volume = volume_with 8 (inr refl) blocks (label_octets inodes host) bitmap its.low its.high label_whole marks.whole in (
        volume.0,
        empty_stands host volume.0 (label_octets inodes host) inodes its_blocks volume.1
            (labelled blocks inodes its host named its_blocks (as_many blocks inodes its its_blocks done)) made.rule made.files_are,
      )

-- ---- a bitmap whose first four bits are set

abbrev first_bits : Octets → Octets
first_bits rest = 15 ∷ rest

bits_of_first : (rest : Octets) (b : ℕ) → b < 8 → bit_of (first_bits rest) b ≡ ltb b 4
bits_of_first rest zero low = refl
bits_of_first rest (suc zero) low = refl
bits_of_first rest (suc (suc zero)) low = refl
bits_of_first rest (suc (suc (suc zero))) low = refl
bits_of_first rest (suc (suc (suc (suc zero)))) low = refl
bits_of_first rest (suc (suc (suc (suc (suc zero))))) low = refl
bits_of_first rest (suc (suc (suc (suc (suc (suc zero)))))) low = refl
bits_of_first rest (suc (suc (suc (suc (suc (suc (suc zero))))))) low = refl
bits_of_first rest (suc (suc (suc (suc (suc (suc (suc (suc b)))))))) low = absurd (omega (arith, low))

bits_after : (rest : Octets) (b : ℕ) → All IsZero rest → 8 ≤ b → bit_of (first_bits rest) b ≡ ltb b 4
bits_after rest b zeros high =
    let place : b / 8 ≡ suc (b / 8 - 1) = omega (arith, high) in
    let clear : get_or (first_bits rest) (b / 8) 0 ≡ 0 = ap (λ (k : ℕ). get_or (first_bits rest) k 0) place
    ∙ zero_at rest (b / 8 - 1) zeros in
    ap (λ (o : ℕ). eqb (o / 2 ^ (b % 8) % 2) 1) clear ∙ ap (λ (o : ℕ). eqb (o % 2) 1) (zero-div (2 ^ (b % 8)))
    ∙ sym (le-ltb b 4 (omega (arith, high)))

first_four : (rest : Octets) → All IsZero rest → (b : ℕ) → bit_of (first_bits rest) b ≡ ltb b 4
first_four rest zeros b = elim (cases_lt b 8) [
  | inl low ↦ bits_of_first rest b low
  | inr high ↦ bits_after rest b zeros high
]

bitmap_size : (rest : Octets) → length rest ≡ 4095 → length (first_bits rest) ≡ 4096
bitmap_size rest is = omega (arith, is)

-- ---- so each host has an image

pub image_of_host : EachHostHasAnImage
image_of_host host named =
    let rest : Octets = replicate 4095 0 in
    new_image 1024 64 (sized 1024 64 refl) (first_bits rest) refl
    (record {
      whole = bitmap_size rest (length-replicate {A = ℕ} 4095 0);
      bits = λ b low.
          let start : 32768 * 0 + b ≡ b = omega arith in
          first_four rest (All-replicate IsZero 4095 0 refl) b ∙ ap (λ (k : ℕ). ltb k 4) (sym start);
    })
    host named

-- the host `a`
pub one_image : AnImageStands
one_image = let made = image_of_host (97 ∷ []) refl in (97 ∷ [], made.0, made.1)
