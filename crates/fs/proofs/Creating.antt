-- A new file.
use Rattle.std.proofs.Common.{◌≡◌, ◌≢◌, ◌⊎◌, inl, inr, ◌<◌, ℕ, suc, ◌+◌, ◌-◌, ◌*◌, ◌/◌, ◌%◌, cond, eqb, ltb, Some, List, [], ◌∷◌, ◌++◌}
use Rattle.std.proofs.Common.{length, get_or, map, take, replicate, refl, sym, ◌∙◌, ap, subst, arith}
use Rattle.std.specs.List.{All, Contains, range_with_len, flat_map}
use Rattle.std.proofs.lemmas.List.{ext_get_or, get_or-replicate, length-replicate}
use Rattle.std.proofs.lemmas.List.Elements.{All-replicate}
use Rattle.std.proofs.lemmas.Bool.{cases_eq, cond_both}
use Rattle.disk.proofs.Images.{length-part}
use Rattle.model.specs.Stream.{Octets}
use Rattle.model.specs.Volume.{number_at}
use Rattle.model.specs.Files.{FileEntry, HasRoom, IsFile, IsFree, size, block_count, entry_of, indirect_count, indirect_for}
use Rattle.model.specs.Files.{bitmap_blocks}
use Rattle.model.specs.Files.{indirect_number}
use Rattle.model.specs.Files.{indirect_pointer, pointer, owned, name_in, slot_octets, content_of, entry, inode_of, slot_of, indirect_of}
use Rattle.model.specs.Files.{IsFileSystem, file_at}
use Rattle.model.proofs.Owning.{zero_number, free_owns}
use Rattle.fs_layout.specs.Blocks.{PutsRecord, IsFound}
use Rattle.fs_layout.specs.Table.{IsName}
use Rattle.fs.specs.Calls.{Creates, HasNoFreeInode}
use Rattle.fs_layout.proofs.Entries.{name_in-slot_octets}
use Rattle.fs_layout.proofs.Tables.{get_or-table, file_at_free, file_at_file, table_set, no_slot}
use Rattle.fs_layout.proofs.Keeps.{PutsEntry, puts_inode, puts_slot, inode_keeps_marks, slot_keeps_marks, entry_other, file_other}
use Rattle.fs_layout.proofs.Keeps.{keeps_rule, keeps_room}

-- ---- free slots

zeros_are : (octets : Octets) (n : ℕ) → length octets ≡ n → All (λ o. o ≡ 0) octets → octets ≡ replicate n 0
zeros_are octets n size zeros =
    let many : length (replicate {A = ℕ} n 0) ≡ n = length-replicate n 0 in
    ext_get_or 0 octets (replicate n 0) (size ∙ sym many) (λ i low. zeros i 0 low ∙ sym (get_or-replicate n i 0 0 (omega arith)))

module _ (inodes : ℕ) (blocks : List Octets) (room : HasRoom inodes blocks) (fs : IsFileSystem inodes blocks) where
  free_slot_is : (k : ℕ) → k < inodes → IsFree (entry inodes blocks k) → slot_of inodes blocks k ≡ replicate 64 0
  free_slot_is k low free =
      let there : 2 + inodes / 64 + k / 64 < length blocks = omega (arith, room.room, room.whole) in
      let whole = room.blocks_whole (2 + inodes / 64 + k / 64) [] there in
      zeros_are (slot_of inodes blocks k) 64 (length-part (k % 64 * 64) 64
      (get_or blocks (bitmap_blocks (length blocks) + inodes / 64 + k / 64) []) (omega arith))
      free.slot_zeros

  pub no_free_inode : ((k : ℕ) → k < inodes → slot_of inodes blocks k ≢ replicate 64 0) → HasNoFreeInode inodes blocks
  no_free_inode none k low is = elim (fs.each k low) [
    | inl free ↦ none k low (free_slot_is k low free)
    | inr file ↦ let some = get_or-table inodes blocks k low ∙ file_at_file inodes blocks k file in cc
  ]

  pub free_from_slot : (k : ℕ) → k < inodes → slot_of inodes blocks k ≡ replicate 64 0 → IsFree (entry inodes blocks k)
  free_from_slot k low zeros = elim (fs.each k low) [
    | inl free ↦ free
    | inr file ↦ absurd (let first = ap (λ (s : Octets). get_or s 0 0) (sym zeros ∙ file.slot_is) in omega (arith, file.name_some))
  ]

-- ---- the entry of a new file

abbrev pub new_inode : Octets
new_inode = 1 ∷ replicate 63 0

abbrev new_entry : Octets → FileEntry
new_entry name = record { inode = new_inode; slot = slot_octets name; double = []; pointers = λ p. [] }

new_kind : number_at 0 4 new_inode ≡ 1
unfolding number_at
new_kind = refl

later_zero : (a n v : ℕ) (rest : Octets) → All (λ o. o ≡ 0) rest → number_at (suc a) n (v ∷ rest) ≡ 0
unfolding number_at
later_zero a n v rest zeros = zero_number a n rest zeros

new_number : (a n : ℕ) → number_at (suc a) n new_inode ≡ 0
new_number a n = later_zero a n 1 (replicate 63 0) (All-replicate (λ o. o ≡ 0) 63 0 refl)

none_zero : All (λ (o : ℕ). o ≡ 0) []
none_zero k d low = absurd (omega arith)

new_pointer : (name : Octets) (i : ℕ) → pointer (new_entry name) i ≡ 0
new_pointer name i =
    cond_both (ltb i 10) (number_at (12 + 4 * i) 4 new_inode) (number_at (4 * ((i - 10) % 1024)) 4 []) (λ n. n ≡ 0)
    (λ low. let place : 12 + 4 * i ≡ suc (11 + 4 * i) = omega arith in ap (λ (a : ℕ). number_at a 4 new_inode) place
    ∙ new_number (11 + 4 * i) 4)
    (λ high. zero_number (4 * ((i - 10) % 1024)) 4 [] none_zero)

-- the number of a block of pointers, if there is no double-indirect block
no_table : (double : Octets) → double ≡ [] → (p : ℕ) → indirect_number new_inode double p ≡ 0
no_table double none p =
    cond_both (eqb p 0) (number_at 52 4 new_inode) (number_at (4 * (p - 1)) 4 double) (λ n. n ≡ 0) (λ first. new_number 51 4)
    (λ later. ap (number_at (4 * (p - 1)) 4) none ∙ zero_number (4 * (p - 1)) 4 [] none_zero)

new_owns : (name : Octets) → owned (new_entry name) ≡ []
new_owns name =
    ap (λ (n : ℕ). cond (eqb n 0) [] (n ∷ []) ++
    (map (λ p. indirect_pointer (new_entry name) p) (range_with_len 0 (indirect_count (new_entry name))) ++ map
    (λ i. pointer (new_entry name) i) (range_with_len 0 (block_count (new_entry name))))) (new_number 55 4)
    ∙ ap (λ (n : ℕ). map (λ p. indirect_pointer (new_entry name) p) (range_with_len 0 (indirect_for ((n + 4095) / 4096))) ++ map
    (λ i. pointer (new_entry name) i) (range_with_len 0 ((n + 4095) / 4096))) (new_number 3 8)

new_is_file : (name : Octets) → IsName name → IsFile (new_entry name)
new_is_file name is =
    let no_size : size (new_entry name) ≡ 0 = new_number 3 8 in
    let same = name_in-slot_octets name in
    record {
      kind_is = new_kind;
      small = omega arith;
      spare = new_number 59 4;
      double_where = ((λ more. absurd (omega (arith, more, no_size))), (λ some. absurd (some (new_number 55 4))));
      indirect_where = λ p. ((λ less. absurd (omega (arith, less, no_size))), (λ some. absurd (some (no_table [] refl p))));
      no_other_pointer = λ i high. new_pointer name i;
      name_some = omega (arith, is.0, ap length same);
      name_few = omega (arith, is.1, ap length same);
      slot_is = sym (ap slot_octets same);
    }

-- ---- the file system with it

module _ (inodes at : ℕ) (name : Octets) (a b c : List Octets) (room : HasRoom inodes a) (is_name : IsName name)
    (fs : IsFileSystem inodes a) (none : (k : ℕ) → k < inodes → slot_of inodes a k ≢ slot_octets name)
    (found : IsFound inodes a (replicate 64 0) at) (first : PutsRecord (bitmap_blocks (length a) + inodes / 64) at (slot_octets name) a b)
    (second : PutsRecord (bitmap_blocks (length b)) at new_inode b c) where
  puts : PutsEntry inodes at new_inode (slot_octets name) (λ n. ⊥) a c
  puts =
      let then = puts_inode inodes at new_inode b c room.whole found.below second in
      let slotted = puts_slot inodes at (slot_octets name) a b room.whole found.below first in
      record {
        count = then.count ∙ slotted.count;
        inode_is = then.inode_is;
        slot_is = then.slot_is ∙ slotted.slot_is;
        inodes_other = λ l below other. then.inodes_other l below other ∙ slotted.inodes_other l below other;
        slots_other = λ l below other. then.slots_other l below other ∙ slotted.slots_other l below other;
        data_same = λ n high untouched. then.data_same n (omega (arith, high, slotted.count)) untouched
            ∙ slotted.data_same n high untouched;
      }

  untouched : (l b : ℕ) → l < inodes → l ≢ at → Contains (owned (entry inodes a l)) b → ¬ ⊥
  untouched l b low other owns nothing = nothing

  was_free : IsFree (entry inodes a at)
  was_free = free_from_slot inodes a room fs at found.below found.is

  no_double : indirect_of c (number_at 56 4 new_inode) ≡ []
  no_double = ap (λ (n : ℕ). indirect_of c n) (new_number 55 4)

  no_tables : (p : ℕ) → indirect_of c (indirect_number new_inode (indirect_of c (number_at 56 4 new_inode)) p) ≡ []
  no_tables p = ap (λ (n : ℕ). indirect_of c n) (no_table (indirect_of c (number_at 56 4 new_inode)) no_double p)

  here : entry inodes c at ≡ new_entry name
  here =
      ap (λ (o : Octets). entry_of c o (slot_of inodes c at)) puts.inode_is
      ∙ ap (λ (o : Octets). entry_of c new_inode o) puts.slot_is
      ∙ (λ j. record { inode = new_inode; slot = slot_octets name; double = no_double j; pointers = λ p. no_tables p j })

  others : (l : ℕ) → l < inodes → l ≢ at → entry inodes c l ≡ entry inodes a l
  others = entry_other inodes at new_inode (slot_octets name) (λ n. ⊥) a c puts fs untouched

  named_here : name_in (slot_of inodes c at) ≡ name
  named_here = ap name_in puts.slot_is ∙ name_in-slot_octets name

  -- no other file has the name
  alone : (l : ℕ) → l < inodes → l ≢ at → IsFile (entry inodes c l) → name_in (slot_of inodes c l) ≢ name
  alone l low other file same =
      let old = subst IsFile (others l low other) file in
      none l low (old.slot_is ∙ ap slot_octets (sym (ap name_in (puts.slots_other l low other)) ∙ same))

  rule : IsFileSystem inodes c
  rule =
      keeps_rule inodes a c fs puts.count
      (λ k low. elim (cases_eq k at) [
        | inl same ↦ inr (subst (λ (l : ℕ). IsFile (entry inodes c l)) (sym same) (subst IsFile (sym here) (new_is_file name is_name)))
        | inr other ↦ subst (λ (e : FileEntry). IsFree e ⊎ IsFile e) (sym (others k low other)) (fs.each k low)
      ])
      (λ k low. elim (cases_eq k at) [
        | inl same ↦
            ap (λ (l : ℕ). owned (entry inodes c l)) same ∙ ap owned here ∙ new_owns name
            ∙ sym (ap (λ (l : ℕ). owned (entry inodes a l)) same ∙ free_owns (entry inodes a at) was_free)
        | inr other ↦ ap owned (others k low other)
      ])
      (λ bit small. inode_keeps_marks inodes at new_inode b c room.whole found.below second bit (omega (arith, small, first.count))
      ∙ slot_keeps_marks inodes at (slot_octets name) a b room.whole found.below first bit small)
      (λ k l low below kf lf same. elim (cases_eq k at) [
        | inl k_is ↦ elim (cases_eq l at) [
          | inl l_is ↦ k_is ∙ sym l_is
          | inr l_other ↦ absurd (alone l below l_other lf (sym same ∙ ap (λ (m : ℕ). name_in (slot_of inodes c m)) k_is ∙ named_here))
        ]
        | inr k_other ↦ elim (cases_eq l at) [
          | inl l_is ↦ absurd (alone k low k_other kf (same ∙ ap (λ (m : ℕ). name_in (slot_of inodes c m)) l_is ∙ named_here))
          | inr l_other ↦
              fs.names_distinct k l low below (subst IsFile (others k low k_other) kf) (subst IsFile (others l below l_other) lf)
              (sym (ap name_in (puts.slots_other k low k_other)) ∙ same ∙ ap name_in (puts.slots_other l below l_other))
        ]
      ])

  file_here : file_at inodes c at ≡ Some (record { name = name; content = [] })
  file_here =
      let file = subst IsFile (sym here) (new_is_file name is_name) in
      file_at_file inodes c at file
      ∙ ap (λ (n : Octets). Some (record { name = n; content = content_of c (entry inodes c at) })) named_here
      ∙ ap (λ (e : FileEntry). Some (record { name = name; content = content_of c e })) here
      ∙ ap (λ (n : ℕ). Some (record {
        name = name;
        content = take n (flat_map (λ i. get_or c (pointer (new_entry name) i) []) (range_with_len 0 ((n + 4095) / 4096)));
      }))
      (new_number 3 8)

  pub creates : Creates inodes name at a c
  creates = record {
    absent = no_slot inodes a fs name none;
    below = found.below;
    free = get_or-table inodes a at found.below ∙ file_at_free inodes a at was_free;
    lowest = λ k low is. elim (fs.each k (omega (arith, found.below))) [
      | inl free ↦ found.lowest k low (free_slot_is inodes a room fs k (omega (arith, found.below)) free)
      | inr file ↦ (let some = get_or-table inodes a k (omega (arith, found.below)) ∙ file_at_file inodes a k file in cc)
    ];
    makes = record {
      room = keeps_room inodes a c room puts.count (second.whole (first.whole room.blocks_whole));
      rule = rule;
      files_are = table_set inodes at a c (Some (record { name = name; content = [] })) found.below
          (file_other inodes at new_inode (slot_octets name) (λ n. ⊥) a c puts fs untouched) file_here;
    };
  }
