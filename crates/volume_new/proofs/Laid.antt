-- The blocks of a new volume, and what they stand for.
use Rattle.std.proofs.Common.{◌≡◌, ◌≢◌, inl, inr, ◌<◌, ◌≤◌, ℕ, ◌+◌, ◌-◌, ◌*◌, IsTrue, List, [], ◌∷◌, length}
use Rattle.std.proofs.Common.{get_or, replicate, set, take, drop}
use Rattle.std.proofs.Common.{refl, sym, ◌∙◌, ap, subst, arith, length-drop, length-set, Err, Ok, OnOk, Result}
use Rattle.std.proofs.lemmas.Bool.{cases_eq, cases_lt}
use Rattle.std.proofs.lemmas.List.{ext_get_or, get_or-drop, get_or-replicate, get_or-set_other, get_or-set_same, get_or-take}
use Rattle.std.proofs.lemmas.List.{length-replicate, length-take-le}
use Rattle.disk.specs.Device.{Device, LeavesOnly}
use Rattle.disk.specs.Image.{overwritten, part}
use Rattle.disk.proofs.Images.{get_or-part, length-overwritten, length-part, overwritten_above, overwritten_below, overwritten_inside}
use Rattle.disk.proofs.Images.{part-overwritten_apart}
use Rattle.fs.specs.Emptying.{MarksFirst}
use Rattle.fs.proofs.Emptying.{emptied_more, emptied_none}
use Rattle.model.specs.Layout.{label_octets}
use Rattle.model.specs.Names.{is_host}
use Rattle.model.specs.Stream.{Octets}
use Rattle.model.specs.Volume.{IsSuperblock, StandsFor, block, epoch_in, format_in, gate_place, home, home_place, home_size, label_of}
use Rattle.model.specs.Volume.{number_at, open_segments, segment_count}
use Rattle.model.proofs.Images.{empty_stands}
use Rattle.journal_laws.specs.Images.{SameBut}
use Rattle.journal_laws.proofs.Blocks.{block-overwritten, overwritten_same, same_but_then}
use Rattle.journal_laws.proofs.Standing.{get_or-home, length-home, none_are_open, stands_bare}
use Rattle.journal_layout.specs.Formatting.{zero_block, zeroed}
use Rattle.journal_layout.proofs.Formatted.{blocks_more, shut_gate}
use Rattle.volume_new.specs.Formatting.{HasBitmap, IsLaid, IsLaidOut, IsNew, IsNewVolume, IsSuperblockOf, completed}
use Rattle.volume_new.specs.Sizes.{are_sizes, device_size}
use Rattle.volume_new.proofs.Emptied.{as_many, labelled, makes, sized, zero_block_size, zero_block_zero}

-- ---- block by block

pub laid_zeros : (blocks : ℕ) (image : Octets) → length image ≡ device_size blocks
    → ((k : ℕ) → 0 < k → k < home_place 8 blocks → block k image ≡ zero_block) → IsLaid blocks (zeroed blocks) image
laid_zeros blocks image size all = record {
  size = size;
  count = many_zeros;
  before = λ k some low. all k some (omega (arith, low));
  home = λ k low. all (home_place 8 k) (omega arith) (omega (arith, low)) ∙ sym (get_or-replicate blocks k zero_block [] low);
}
  where
    many_zeros : length (zeroed blocks) ≡ blocks
    many_zeros = length-replicate blocks zero_block

-- one more block of zeros is written
pub zeros_more : (k : ℕ) (old new : Octets) → new ≡ overwritten (4096 * k) (replicate 4096 0) old → 4096 * k + 4096 ≤ length old
    → ((j : ℕ) → 0 < j → j < k → block j old ≡ zero_block) → (j : ℕ) → 0 < j → j < k + 1 → block j new ≡ zero_block
unfolding zero_block
zeros_more k old new is room so_far = blocks_more k (replicate 4096 0) old new is (length-replicate {A = ℕ} 4096 0) room so_far

-- one more block is written at home
pub laid_home : (blocks k : ℕ) (homes : List Octets) (octets image : Octets) → IsLaid blocks homes image → k < blocks → length octets ≡ 4096
    → IsLaid blocks (set homes k octets) (overwritten (4096 * home_place 8 k) octets image)
laid_home blocks k homes octets image laid low whole = record {
  size = others.size ∙ laid.size;
  count = length-set homes k octets ∙ laid.count;
  before = λ j some before. others.same j (λ e. absurd (omega (arith, e, before))) ∙ laid.before j some before;
  home = λ j within. elim (cases_eq j k) [
    | inl is ↦
        ap (λ (n : ℕ). block (home_place 8 n) (overwritten (4096 * home_place 8 k) octets image)) is
        ∙ block-overwritten (home_place 8 k) octets image whole fits
        ∙ sym (ap (λ (n : ℕ). get_or (set homes k octets) n []) is ∙ get_or-set_same homes k octets [] (omega (arith, low, laid.count)))
    | inr other ↦
        others.same (home_place 8 j) (λ e. other (omega (arith, e))) ∙ laid.home j within ∙ sym (get_or-set_other homes k j octets [] other)
  ];
}
  where
    fits : 4096 * home_place 8 k + length octets ≤ length image
    fits = omega (arith, whole, laid.size, low)

    others : SameBut (λ j. j ≡ home_place 8 k) image (overwritten (4096 * home_place 8 k) octets image)
    others = overwritten_same (home_place 8 k) octets image (omega (arith, whole)) fits

pub bitmap_none : (first blocks : ℕ) (image : Octets) → IsLaid blocks (zeroed blocks) image → HasBitmap first 0 blocks image
bitmap_none first blocks image laid = record { homes = zeroed blocks; marked = emptied_none first (zeroed blocks); laid = laid }

pub bitmap_more : (first table blocks : ℕ) (bitmap image : Octets) → HasBitmap first table blocks image → table < blocks
    → MarksFirst table first bitmap → HasBitmap first (table + 1) blocks (overwritten (4096 * home_place 8 table) bitmap image)
bitmap_more first table blocks bitmap image has low marks = record {
  homes = set has.homes table bitmap;
  marked = emptied_more first table (zeroed blocks) has.homes (set has.homes table bitmap) has.marked (omega (arith, low, has.laid.count))
      (record { bitmap = bitmap; marks = marks; puts = refl });
  laid = laid_home blocks table has.homes bitmap image has.laid low marks.whole;
}

-- ---- behind the superblock

-- octets written within the superblock
pub within_first : (at : ℕ) (octets image : Octets) → at + length octets ≤ 4096 → 4096 ≤ length image
    → SameBut (λ k. k ≡ 0) image (overwritten at octets image)
within_first at octets image low room = record {
  size = length-overwritten at octets image (omega (arith, low, room));
  same = λ k other. part-overwritten_apart at octets image (omega (arith, low, room)) (4096 * k) 4096 (inr (omega (arith, low, other)));
}

pub laid_beside : (blocks : ℕ) (homes : List Octets) (old new : Octets) → IsLaid blocks homes old → SameBut (λ k. k ≡ 0) old new
    → IsLaid blocks homes new
laid_beside blocks homes old new laid same = record {
  size = same.size ∙ laid.size;
  count = laid.count;
  before = λ k some low. same.same k (λ e. absurd (omega (arith, some, e))) ∙ laid.before k some low;
  home = λ k low. same.same (home_place 8 k) (λ e. absurd (omega (arith, e))) ∙ laid.home k low;
}

pub bitmap_beside : (first tables blocks : ℕ) (old new : Octets) → HasBitmap first tables blocks old → SameBut (λ k. k ≡ 0) old new
    → HasBitmap first tables blocks new
bitmap_beside first tables blocks old new has same = record {
  homes = has.homes;
  marked = has.marked;
  laid = laid_beside blocks has.homes old new has.laid same;
}

-- ---- the superblock, but for one octet

module _ (s x : Octets) (whole : length s ≡ 4096) (room : 4096 ≤ length x) where
  abbrev pub with_parts : Octets
  with_parts = overwritten 8 (drop 8 s) (overwritten 0 (take 7 s) x)

  front_size : length (take 7 s) ≡ 7
  front_size = length-take-le 7 s (omega (arith, whole))

  rest_size : length (drop 8 s) ≡ 4088
  rest_size = omega (arith, whole, length-drop 8 s)

  fits_front : 0 + length (take 7 s) ≤ length x
  fits_front = omega (arith, front_size, room)

  front_same : SameBut (λ k. k ≡ 0) x (overwritten 0 (take 7 s) x)
  front_same = within_first 0 (take 7 s) x (omega (arith, front_size)) room

  fits_rest : 8 + length (drop 8 s) ≤ length (overwritten 0 (take 7 s) x)
  fits_rest = omega (arith, rest_size, front_same.size, room)

  pub parts_same : SameBut (λ k. k ≡ 0) x with_parts
  parts_same = same_but_then (λ k. k ≡ 0) x (overwritten 0 (take 7 s) x) with_parts front_same
      (within_first 8 (drop 8 s) (overwritten 0 (take 7 s) x) (omega (arith, rest_size)) (omega (arith, front_same.size, room)))

  pub parts_are : (k : ℕ) → k < 4096 → k ≢ 7 → get_or with_parts k 0 ≡ get_or s k 0
  parts_are k low other = elim (cases_lt k 7) [
    | inl before ↦
        let place : k - 0 ≡ k = omega arith in
        overwritten_below 8 (drop 8 s) (overwritten 0 (take 7 s) x) fits_rest k 0 (omega (arith, before))
        ∙ overwritten_inside 0 (take 7 s) x fits_front k 0 (omega arith) (omega (arith, before, front_size))
        ∙ ap (λ (n : ℕ). get_or (take 7 s) n 0) place ∙ get_or-take 7 s k 0 before
    | inr behind ↦
        let there : 8 ≤ k = omega (arith, behind, other) in
        let place : 8 + (k - 8) ≡ k = omega (arith, there) in
        overwritten_inside 8 (drop 8 s) (overwritten 0 (take 7 s) x) fits_rest k 0 there (omega (arith, low, rest_size))
        ∙ get_or-drop 8 s (k - 8) 0 ∙ ap (λ (n : ℕ). get_or s n 0) place
  ]

-- ---- the whole

module _ (host label s x : Octets) (blocks inodes format : ℕ) (named : IsTrue (is_host host)) (sizes : IsTrue (are_sizes blocks inodes))
    (super : IsSuperblockOf blocks label format s) (label_is : label ≡ label_octets inodes host) (out : IsLaidOut blocks inodes s x) where
  room : 4096 ≤ length x
  room = omega (arith, out.bitmap.laid.size)

  fits : 7 + length {A = ℕ} (49 ∷ []) ≤ length x
  fits = omega (arith, room)

  abbrev homes : List Octets
  homes = out.bitmap.homes

  same : SameBut (λ k. k ≡ 0) x (completed x)
  same = within_first 7 (49 ∷ []) x (omega arith) room

  laid : IsLaid blocks homes (completed x)
  laid = laid_beside blocks homes x (completed x) out.bitmap.laid same

  its_end : get_or s 7 0 ≡ 49
  its_end = sym (get_or-take 8 s 7 0 (omega arith)) ∙ ap (λ (o : Octets). get_or o 7 0) super.valid.begins

  whole_size : length (block 0 (completed x)) ≡ length s
  whole_size = length-part 0 4096 (completed x) (omega (arith, same.size, room)) ∙ sym super.size

  octet : (k : ℕ) → k < 4096 → get_or (completed x) k 0 ≡ get_or s k 0
  octet k low = elim (cases_lt k 7) [
    | inl before ↦ overwritten_below 7 (49 ∷ []) x fits k 0 before ∙ out.octets k low (λ e. absurd (omega (arith, e, before)))
    | inr behind ↦ elim (cases_eq k 7) [
      | inl here ↦
          ap (λ (n : ℕ). get_or (completed x) n 0) here ∙ overwritten_inside 7 (49 ∷ []) x fits 7 0 (omega arith) (omega arith)
          ∙ sym (ap (λ (n : ℕ). get_or s n 0) here ∙ its_end)
      | inr other ↦ overwritten_above 7 (49 ∷ []) x fits k 0 (omega (arith, behind, other)) ∙ out.octets k low other
    ]
  ]

  zeroth : block 0 (completed x) ≡ s
  zeroth = ext_get_or 0 (block 0 (completed x)) s whole_size each
    where
      each : (k : ℕ) → k < length (block 0 (completed x)) → get_or (block 0 (completed x)) k 0 ≡ get_or s k 0
      each k within =
          let low : k < 4096 = omega (arith, within, whole_size, super.size) in
          let place : 0 + k ≡ k = omega arith in
          get_or-part 0 4096 (completed x) k 0 low ∙ ap (λ (n : ℕ). get_or (completed x) n 0) place ∙ octet k low

  count_is : segment_count (completed x) ≡ 8
  count_is = ap (λ (b : Octets). number_at 16 4 b) zeroth ∙ super.has_segments

  size_is : home_size (completed x) ≡ blocks
  size_is = ap (λ (b : Octets). number_at 12 4 b) zeroth ∙ super.has_blocks

  valid : IsSuperblock (block 0 (completed x)) (length (completed x))
  valid = subst (λ (n : ℕ). IsSuperblock (block 0 (completed x)) n) (sym laid.size)
      (subst (λ (b : Octets). IsSuperblock b (device_size blocks)) (sym zeroth) super.valid)

  none : open_segments (completed x) ≡ []
  none = none_are_open (completed x) (λ k low. shut_gate (completed x) zero_block k zero_block_size zero_block_zero
      (laid.before (gate_place k) (omega arith) (omega (arith, low, count_is))))

  home_is : home (completed x) ≡ homes
  home_is = ext_get_or [] (home (completed x)) homes (length-home (completed x) ∙ size_is ∙ sym laid.count) each
    where
      each : (k : ℕ) → k < length (home (completed x)) → get_or (home (completed x)) k [] ≡ get_or homes k []
      each k within =
          let inside : k < home_size (completed x) = omega (arith, within, length-home (completed x)) in
          get_or-home (completed x) k inside ∙ ap (λ (n : ℕ). block (home_place n k) (completed x)) count_is
          ∙ laid.home k (omega (arith, inside, size_is))

  stands : StandsFor (completed x) (label_octets inodes host) homes
  stands =
      subst (λ (l : Octets). StandsFor (completed x) l homes)
      (ap (λ (b : Octets). part 20 128 b) zeroth ∙ super.has_label ∙ label_is)
      (subst (λ (bs : List Octets). StandsFor (completed x) (label_of (completed x)) bs) home_is (stands_bare (completed x) valid none))

  pub new_volume : IsNewVolume host blocks inodes format (completed x)
  new_volume =
      let its = sized blocks inodes sizes in
      let made = makes blocks inodes its homes out.bitmap.marked in
      record {
        stands = empty_stands host (completed x) (label_octets inodes host) inodes homes stands
            (labelled blocks inodes its host named homes (as_many blocks inodes its homes out.bitmap.marked)) made.rule made.files_are;
        has_label = stands.has_label;
        has_format = ap (λ (b : Octets). format_in b) zeroth ∙ super.has_format;
        has_epoch = ap (λ (b : Octets). epoch_in b) zeroth ∙ super.has_epoch;
        has_blocks = size_is;
        has_segments = count_is;
      }

-- the last octet of its magic was written
pub new_made : {T E : Type 0} (result : Result T E) (host : Octets) (blocks inodes format : ℕ) (mid : Octets) (new : Device)
    → IsNewVolume host blocks inodes format (completed mid) → OnOk result (new.content ≡ completed mid)
    → OnOk result (LeavesOnly new new.content) → OnOk result (IsNew host blocks inodes format new)
new_made (Ok x) host blocks inodes format mid new volume is synced = record {
  volume = subst (λ (o : Octets). IsNewVolume host blocks inodes format o) (sym is) volume;
  synced = synced;
}
new_made (Err e) host blocks inodes format mid new volume is synced = is

-- its octets were synced
pub out_synced : {T E : Type 0} (result : Result T E) (blocks inodes : ℕ) (superblock old new : Octets)
    → IsLaidOut blocks inodes superblock old → OnOk result (new ≡ old) → OnOk result (IsLaidOut blocks inodes superblock new)
out_synced (Ok x) blocks inodes superblock old new laid is = subst (λ (o : Octets). IsLaidOut blocks inodes superblock o) (sym is) laid
out_synced (Err e) blocks inodes superblock old new laid is = is
