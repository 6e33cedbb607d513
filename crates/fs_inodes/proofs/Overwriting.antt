-- Octets in one block of a file, over those that stood there.
use Rattle.std.proofs.Common.{◌≡◌, ◌≢◌, inl, inr, ◌<◌, ◌≤◌, ℕ, ◌+◌, ◌-◌, ◌*◌, ◌/◌, ◌%◌, List, [], length, get_or, set, sym}
use Rattle.std.proofs.Common.{◌∙◌, ap, subst, arith, length-set}
use Rattle.std.specs.List.{All, Contains}
use Rattle.std.proofs.lemmas.List.{ext_get_or, get_or-set_same, get_or-set_other}
use Rattle.std.proofs.lemmas.List.Elements.{All-set}
use Rattle.std.proofs.lemmas.Bool.{cases_eq, cases_lt, cases_order}
use Rattle.disk.specs.Image.{part, overwritten}
use Rattle.disk.proofs.Images.{length-overwritten, overwritten_below, overwritten_inside, overwritten_above}
use Rattle.model.specs.Stream.{Octets}
use Rattle.model.specs.Files.{FileEntry, HasRoom, IsFile, size, block_count, double_pointer, indirect_count, indirect_pointer, pointer}
use Rattle.model.specs.Files.{bitmap_blocks}
use Rattle.model.specs.Files.{owned}
use Rattle.model.specs.Files.{content_of, entry, inode_of, slot_of, indirect_of, first_data, IsFileSystem}
use Rattle.model.proofs.Owning.{content_size, owns_pointer}
use Rattle.fs_inodes.specs.Changes.{ReplacesContent, SameMarks}
use Rattle.fs_layout.proofs.Keeps.{indirect_same, PutsEntry, same_entry, same_inode, same_slot, marks_same}
use Rattle.fs_inodes.proofs.Named.{file_names}
use Rattle.fs_inodes.proofs.Owned.{double_not_pointer, pointers_differ, table_not_pointer}
use Rattle.fs_inodes.proofs.Places.{get_or-content}
use Rattle.fs_inodes.proofs.Replacing.{rule_keeps, replaces}

-- ---- a data block of a file

module _ (inodes k n : ℕ) (octets : Octets) (old : List Octets) (whole : inodes % 64 ≡ 0) (low : k < inodes)
    (behind : first_data (length old) inodes ≤ n) where
  count : length (set old n octets) ≡ length old
  count = length-set old n octets

  inode_stays : (l : ℕ) → l < inodes → inode_of (set old n octets) l ≡ inode_of old l
  inode_stays l below = same_inode old (set old n octets) l count ∙ ap (λ (b : Octets). part (l % 64 * 64) 64 b)
      (get_or-set_other old n (bitmap_blocks (length old) + l / 64) octets [] (omega arith))

  slot_stays : (l : ℕ) → l < inodes → slot_of inodes (set old n octets) l ≡ slot_of inodes old l
  slot_stays l below = same_slot inodes old (set old n octets) l count ∙ ap (λ (b : Octets). part (l % 64 * 64) 64 b)
      (get_or-set_other old n (bitmap_blocks (length old) + inodes / 64 + l / 64) octets [] (omega arith))

  -- that block alone
  pub puts_data : PutsEntry inodes k (inode_of old k) (slot_of inodes old k) (λ m. m ≡ n) old (set old n octets)
  puts_data = record {
    count = length-set old n octets;
    inode_is = inode_stays k low;
    slot_is = slot_stays k low;
    inodes_other = λ l below other. inode_stays l below;
    slots_other = λ l below other. slot_stays l below;
    data_same = λ m high untouched. get_or-set_other old n m octets [] untouched;
  }

  pub data_keeps_marks : SameMarks old (set old n octets)
  data_keeps_marks = record {
    count = length-set old n octets;
    marks = marks_same old (set old n octets) (bitmap_blocks (length old))
        (λ t few. get_or-set_other old n t octets [] (omega (arith, few)));
  }

-- ---- octets in it

module _ (inodes k : ℕ) (place : ℕ) (octets : Octets) (old : List Octets) (room : HasRoom inodes old) (fs : IsFileSystem inodes old)
    (low : k < inodes) (file : IsFile (entry inodes old k)) (some : 0 < length octets)
    (fits : place + length octets ≤ size (entry inodes old k)) (one_block : place % 4096 + length octets ≤ 4096) where
  abbrev e : FileEntry
  e = entry inodes old k

  abbrev number : ℕ
  number = pointer (entry inodes old k) (place / 4096)

  abbrev written : Octets
  written = overwritten (place % 4096) octets (get_or old (pointer (entry inodes old k) (place / 4096)) [])

  abbrev new : List Octets
  new = set old (pointer (entry inodes old k) (place / 4096))
      (overwritten (place % 4096) octets (get_or old (pointer (entry inodes old k) (place / 4096)) []))

  counted : place / 4096 < block_count e
  counted = omega arith

  owns : Contains (owned e) number
  owns = owns_pointer e (place / 4096) counted

  inside : (b : ℕ) → Contains (owned e) b → b < length old
  inside b has = (fs.within k b low has).1

  length-block : length (get_or old number []) ≡ 4096
  length-block = room.blocks_whole number [] (inside number owns)

  in_block : place % 4096 + length octets ≤ length (get_or old number [])
  in_block = omega (arith, length-block)

  length-written : length written ≡ 4096
  length-written = length-overwritten (place % 4096) octets (get_or old number []) in_block ∙ length-block

  puts : PutsEntry inodes k (inode_of old k) (slot_of inodes old k) (λ m. m ≡ number) old new
  puts = puts_data inodes k number written old room.whole low (fs.within k number low owns).0

  pub overwrites_marks : SameMarks old new
  overwrites_marks = data_keeps_marks inodes k number written old room.whole low (fs.within k number low owns).0

  untouched : (l b : ℕ) → l < inodes → l ≢ k → Contains (owned (entry inodes old l)) b → b ≢ number
  untouched l b below other has is =
      other (fs.one_owner l k number below low (subst (λ (n : ℕ). Contains (owned (entry inodes old l)) n) is has) owns)

  -- the blocks that name blocks stay
  named_stays : (m : ℕ) → m ≢ number → indirect_of new m ≡ indirect_of old m
  named_stays m other = indirect_same old new m (λ some. get_or-set_other old number m written [] other)

  double_apart : double_pointer e ≢ number
  double_apart is = elim (cases_eq (double_pointer e) 0) [
    | inl none ↦ absurd (let high = (fs.within k number low owns).0 in omega (arith, high, is, none))
    | inr some ↦ double_not_pointer e (block_count e) (fs.distinct k low) (place / 4096) some counted is
  ]

  table_apart : (p : ℕ) → indirect_pointer e p ≢ number
  table_apart p is = elim (cases_lt p (indirect_count e)) [
    | inl less ↦ table_not_pointer e (block_count e) (fs.distinct k low) p (place / 4096) less counted is
    | inr past ↦ absurd (let none = (file_names inodes k old room fs low file).none p past in let high = (fs.within k number low owns).0 in
        omega (arith, high, is, none))
  ]

  same_here : entry inodes new k ≡ entry inodes old k
  same_here =
      same_entry old new (inode_of new k) (inode_of old k) (slot_of inodes new k) (slot_of inodes old k)
      puts.inode_is puts.slot_is (named_stays (double_pointer e) double_apart) (λ p. named_stays (indirect_pointer e p) (table_apart p))

  whole : All (λ b. length b ≡ 4096) new
  whole = All-set (λ b. length b ≡ 4096) old number written length-written room.blocks_whole

  inside_new : (b : ℕ) → Contains (owned e) b → b < length new
  inside_new b has = omega (arith, inside b has, length-set old number written)

  here : get_or new number [] ≡ written
  here = get_or-set_same old number written [] (inside number owns)

  long : length (content_of old e) ≡ size e
  long = content_size old e room.blocks_whole inside

  fits_content : place + length octets ≤ length (content_of old e)
  fits_content = omega (arith, long)

  -- an octet in the block that was written
  in_this : (j : ℕ) → j < size e → j / 4096 ≡ place / 4096
      → get_or (overwritten place octets (content_of old e)) j 0 ≡ get_or (get_or new (pointer e (j / 4096)) []) (j % 4096) 0
  in_this j below same = elim (cases_lt j place) [
    | inl before ↦
        overwritten_below place octets (content_of old e) fits_content j 0 before
        ∙ was ∙ sym (moved ∙ overwritten_below (place % 4096) octets (get_or old number []) in_block (j % 4096) 0 (omega arith))
    | inr from ↦ elim (cases_lt j (place + length octets)) [
      | inl within ↦
          let at : j - place ≡ j % 4096 - place % 4096 = omega arith in
          overwritten_inside place octets (content_of old e) fits_content j 0 from within
          ∙ ap (λ (n : ℕ). get_or octets n 0) at
          ∙ sym (moved ∙ overwritten_inside (place % 4096) octets (get_or old number []) in_block (j % 4096) 0 (omega arith) (omega arith))
      | inr behind ↦
          overwritten_above place octets (content_of old e) fits_content j 0 behind
          ∙ was ∙ sym (moved ∙ overwritten_above (place % 4096) octets (get_or old number []) in_block (j % 4096) 0 (omega arith))
    ]
  ]
    where
      was : get_or (content_of old e) j 0 ≡ get_or (get_or old number []) (j % 4096) 0
      was = get_or-content old e room.blocks_whole inside j below ∙ ap (λ (n : ℕ). get_or (get_or old (pointer e n) []) (j % 4096) 0) same

      moved : get_or (get_or new (pointer e (j / 4096)) []) (j % 4096) 0 ≡ get_or written (j % 4096) 0
      moved = ap (λ (n : ℕ). get_or (get_or new (pointer e n) []) (j % 4096) 0) same ∙ ap (λ (o : Octets). get_or o (j % 4096) 0) here

  -- an octet in another
  in_other : (j : ℕ) → j < size e → j / 4096 ≢ place / 4096
      → get_or (overwritten place octets (content_of old e)) j 0 ≡ get_or (get_or new (pointer e (j / 4096)) []) (j % 4096) 0
  in_other j below other =
      elim (cases_lt j place) [
        | inl before ↦ overwritten_below place octets (content_of old e) fits_content j 0 before
        | inr from ↦ overwritten_above place octets (content_of old e) fits_content j 0 (omega arith)
      ]
      ∙ get_or-content old e room.blocks_whole inside j below
      ∙ ap (λ (o : Octets). get_or o (j % 4096) 0) (sym (get_or-set_other old number (pointer e (j / 4096)) written [] apart))
    where
      apart : pointer e (j / 4096) ≢ number
      apart is = elim (cases_order (j / 4096) (place / 4096)) [
        | inl same ↦ other same
        | inr ordered ↦ elim ordered [
          | inl less ↦ pointers_differ e (block_count e) (fs.distinct k low) (j / 4096) (place / 4096) less counted is
          | inr more ↦ pointers_differ e (block_count e) (fs.distinct k low) (place / 4096) (j / 4096) more (omega arith) (sym is)
        ]
      ]

  content_is : overwritten place octets (content_of old e) ≡ content_of new (entry inodes new k)
  content_is =
      ext_get_or 0 (overwritten place octets (content_of old e)) (content_of new e)
      (length-overwritten place octets (content_of old e) fits_content ∙ long ∙ sym (content_size new e whole inside_new))
      (λ j below.
      let small : j < size e = omega (arith, length-overwritten place octets (content_of old e) fits_content, long) in
      elim (cases_eq (j / 4096) (place / 4096)) [
        | inl same ↦ in_this j small same ∙ sym (get_or-content new e whole inside_new j small)
        | inr other ↦ in_other j small other ∙ sym (get_or-content new e whole inside_new j small)
      ])
      ∙ ap (λ (f : FileEntry). content_of new f) (sym same_here)

  pub overwrites : ReplacesContent inodes k (overwritten place octets (content_of old e)) old new
  overwrites =
      let is_file = subst IsFile (sym same_here) file in
      replaces inodes k (inode_of old k) (λ m. m ≡ number) old new room fs low file puts untouched is_file
      (overwritten place octets (content_of old e)) whole
      (rule_keeps inodes k (inode_of old k) (λ m. m ≡ number) old new room fs low file puts untouched is_file
      (ap owned same_here) overwrites_marks)
      content_is
