-- The blocks of a copy, and what they stand for.
use Rattle.std.proofs.Common.{◌≡◌, ◌<◌, ◌≤◌, ℕ, ◌+◌, ◌*◌, List, [], length}
use Rattle.std.proofs.Common.{get_or, set, take, suc, sym, ◌∙◌, ap, subst, arith}
use Rattle.std.proofs.lemmas.List.{ext_get_or, take_all}
use Rattle.std.proofs.lemmas.List.Elements.{All-get_or}
use Rattle.std.specs.List.{All}
use Rattle.disk.specs.Image.{overwritten, part}
use Rattle.fs_blocks.proofs.Octets.{length-block}
use Rattle.model.specs.Stream.{Octets}
use Rattle.model.specs.Volume.{IsSuperblock, StandsFor, block, blocks_from, format_in, gate_place, home, home_place, home_size, label_of}
use Rattle.model.specs.Volume.{laid_over, number_at, open_segments, segment_count}
use Rattle.journal_laws.specs.Images.{SameBut}
use Rattle.journal_laws.proofs.Blocks.{block-overwritten, get_or-blocks_from, length-blocks_from}
use Rattle.journal_laws.proofs.Carrying.{laid_next}
use Rattle.journal_laws.proofs.Standing.{get_or-home, length-home, none_are_open, stands_bare}
use Rattle.journal_layout.specs.Formatting.{zero_block}
use Rattle.journal_layout.proofs.Formatted.{shut_gate}
use Rattle.volume_new.specs.Formatting.{IsLaid, IsSuperblockOf}
use Rattle.volume_new.specs.Sizes.{device_size}
use Rattle.volume_new.proofs.Emptied.{zero_block_size, zero_block_zero}
use Rattle.volume_new.proofs.Laid.{laid_beside, laid_home, within_first}
use Rattle.copy_writing.specs.Writing.{HasHome, IsCopyOf}

-- behind zeros any blocks are at home
pub has_home : (blocks : ℕ) (image : Octets) → length image ≡ device_size blocks
    → ((k : ℕ) → 0 < k → k < home_place 8 0 → block k image ≡ zero_block) → HasHome blocks image
has_home blocks image size zeros = record {
  homes = blocks_from (home_place 8 0) blocks image;
  laid = record {
    size = size;
    count = length-blocks_from (home_place 8 0) blocks image;
    before = zeros;
    home = λ k low.
        let place : home_place 8 k ≡ home_place 8 0 + k = omega arith in
        ap (λ (n : ℕ). block n image) place ∙ sym (get_or-blocks_from (home_place 8 0) blocks k image low);
  };
}

-- ---- blocks that are put

-- the blocks after the first of them, this many, were put
abbrev pub put_over : List Octets → List ℕ → Octets → ℕ → List Octets
put_over homes numbers images i = laid_over homes (take i numbers) (take i (blocks_from 0 (length numbers) images))

pub put_all : (homes : List Octets) (numbers : List ℕ) (images : Octets)
    → put_over homes numbers images (length numbers) ≡ laid_over homes numbers (blocks_from 0 (length numbers) images)
put_all homes numbers images =
    let all = blocks_from 0 (length numbers) images in
    ap (λ (ns : List ℕ). laid_over homes ns (take (length numbers) all)) (take_all (length numbers) numbers (omega arith))
    ∙ ap (λ (bs : List Octets). laid_over homes numbers bs)
    (take_all (length numbers) all (omega (arith, length-blocks_from 0 (length numbers) images)))

put_next : (homes : List Octets) (numbers : List ℕ) (images : Octets) (i : ℕ) → i < length numbers
    → put_over homes numbers images (i + 1) ≡ set (put_over homes numbers images i) (get_or numbers i 0) (block i images)
put_next homes numbers images i low =
    let all = blocks_from 0 (length numbers) images in
    let more : i + 1 ≡ suc i = omega arith in
    let place : 0 + i ≡ i = omega arith in
    ap (λ (n : ℕ). put_over homes numbers images n) more
    ∙ laid_next numbers all homes i low (omega (arith, low, length-blocks_from 0 (length numbers) images))
    ∙ ap (λ (b : Octets). set (put_over homes numbers images i) (get_or numbers i 0) b)
    (get_or-blocks_from 0 (length numbers) i images low ∙ ap (λ (n : ℕ). block n images) place)

-- one more block is put
pub put_more : (blocks : ℕ) (numbers : List ℕ) (images : Octets) (homes : List Octets) (i : ℕ) (old new : Octets) → i < length numbers
    → length images ≡ 4096 * length numbers → All (λ n. n < blocks) numbers
    → new ≡ overwritten (4096 * home_place 8 (get_or numbers i 0)) (block i images) old
    → IsLaid blocks (put_over homes numbers images i) old → IsLaid blocks (put_over homes numbers images (i + 1)) new
put_more blocks numbers images homes i old new low whole there is laid =
    subst (λ (hs : List Octets). IsLaid blocks hs new) (sym (put_next homes numbers images i low))
    (subst (λ (o : Octets). IsLaid blocks (set (put_over homes numbers images i) (get_or numbers i 0) (block i images)) o) (sym is)
    (laid_home blocks (get_or numbers i 0) (put_over homes numbers images i) (block i images) old laid
    (All-get_or (λ n. n < blocks) numbers i 0 low there) (length-block i images (omega (arith, low, whole)))))

-- ---- the whole

module _ (label s x : Octets) (homes : List Octets) (blocks format : ℕ) (super : IsSuperblockOf blocks label format s)
    (out : IsLaid blocks homes x) where
  abbrev y : Octets
  y = overwritten 0 s x

  room : 4096 ≤ length x
  room = omega (arith, out.size)

  same : SameBut (λ k. k ≡ 0) x y
  same = within_first 0 s x (omega (arith, super.size)) room

  laid : IsLaid blocks homes y
  laid = laid_beside blocks homes x y out same

  zeroth : block 0 y ≡ s
  zeroth = block-overwritten 0 s x super.size (omega (arith, super.size, room))

  count_is : segment_count y ≡ 8
  count_is = ap (λ (b : Octets). number_at 16 4 b) zeroth ∙ super.has_segments

  size_is : home_size y ≡ blocks
  size_is = ap (λ (b : Octets). number_at 12 4 b) zeroth ∙ super.has_blocks

  valid : IsSuperblock (block 0 y) (length y)
  valid = subst (λ (n : ℕ). IsSuperblock (block 0 y) n) (sym laid.size)
      (subst (λ (b : Octets). IsSuperblock b (device_size blocks)) (sym zeroth) super.valid)

  none : open_segments y ≡ []
  none = none_are_open y (λ k low. shut_gate y zero_block k zero_block_size zero_block_zero
      (laid.before (gate_place k) (omega arith) (omega (arith, low, count_is))))

  home_is : home y ≡ homes
  home_is = ext_get_or [] (home y) homes (length-home y ∙ size_is ∙ sym laid.count) each
    where
      each : (k : ℕ) → k < length (home y) → get_or (home y) k [] ≡ get_or homes k []
      each k within =
          let inside : k < home_size y = omega (arith, within, length-home y) in
          get_or-home y k inside ∙ ap (λ (n : ℕ). block (home_place n k) y) count_is ∙ laid.home k (omega (arith, inside, size_is))

  pub is_copy : IsCopyOf label format homes (overwritten 0 s x)
  is_copy = record {
    stands = subst (λ (l : Octets). StandsFor y l homes) (ap (λ (b : Octets). part 20 128 b) zeroth ∙ super.has_label)
        (subst (λ (bs : List Octets). StandsFor y (label_of y) bs) home_is (stands_bare y valid none));
    has_format = ap (λ (b : Octets). format_in b) zeroth ∙ super.has_format;
  }
