-- What a change of one entry keeps.
use Rattle.std.proofs.Common.{◌≡◌, ◌≢◌, ◌⊎◌, ◌↔◌, inl, inr, ◌<◌, ◌≤◌, ℕ, ◌+◌, ◌-◌, ◌*◌, ◌/◌, ◌%◌, ◌^◌, cond, eqb, Bool, true, false, IsTrue}
use Rattle.std.proofs.Common.{Some, None, List, [], length, get_or, take, refl, sym, ◌∙◌, ap, subst, arith}
use Rattle.std.specs.List.{All, Contains}
use Rattle.std.proofs.lemmas.Bool.{cases_eq, eq-eqb}
use Rattle.std.proofs.lemmas.List.Elements.{All-nil}
use Rattle.disk.specs.Image.{part}
use Rattle.model.specs.Stream.{Octets}
use Rattle.model.specs.Volume.{number_at, AreDistinct}
use Rattle.model.specs.Files.{FileEntry, HasRoom, IsFile, IsFree, kind, size, block_count, double_pointer, entry_of}
use Rattle.model.specs.Files.{indirect_number, indirect_pointer, pointer, owned, name_in, content_of, entry, inode_of, slot_of, indirect_of}
use Rattle.model.specs.Files.{bitmap_bits, bitmap_blocks, first_data, is_marked_used, IsUsed, IsFileSystem, file_at}
use Rattle.model.proofs.Owning.{zero_number, owns_pointer}
use Rattle.model.proofs.Formats.{no_block, flat_map_same}
use Rattle.fs_layout.specs.Blocks.{PutsRecord, record_at}
use Rattle.fs_layout.proofs.Entries.{owns_double, owns_indirect}

-- no inode or slot changes but those of inode k, and no block changes but these
pub record PutsEntry (inodes k : ℕ) (inode slot : Octets) (touched : ℕ → Type 0) (old new : List Octets) : Type 0 where
  pub count : length new ≡ length old
  pub inode_is : inode_of new k ≡ inode
  pub slot_is : slot_of inodes new k ≡ slot
  pub inodes_other : (l : ℕ) → l < inodes → l ≢ k → inode_of new l ≡ inode_of old l
  pub slots_other : (l : ℕ) → l < inodes → l ≢ k → slot_of inodes new l ≡ slot_of inodes old l
  pub data_same : (n : ℕ) → first_data (length old) inodes ≤ n → ¬ (touched n) → get_or new n [] ≡ get_or old n []

-- a record in another block is the same
elsewhere : (first k n : ℕ) (old new : List Octets) → get_or new n [] ≡ get_or old n [] → first + k / 64 ≡ n
    → record_at first new k ≡ record_at first old k
elsewhere first k n old new same is =
    ap (λ (b : Octets). part (k % 64 * 64) 64 b) (ap (λ (m : ℕ). get_or new m []) is ∙ same ∙ ap (λ (m : ℕ). get_or old m []) (sym is))

pub marks_same : (old new : List Octets) (tables : ℕ) → ((t : ℕ) → t < tables → get_or new t [] ≡ get_or old t []) → (b : ℕ)
    → b < 32768 * tables → is_marked_used new b ≡ is_marked_used old b
marks_same old new tables same b small =
    ap (λ (bits : Octets). eqb (get_or bits (b / 8 % 4096) 0 / 2 ^ (b % 8) % 2) 1) (same (b / 8 / 4096) (omega arith))

-- the places of inodes and slots in blocks of the same number
pub same_inode : (old new : List Octets) (k : ℕ) → length new ≡ length old → inode_of new k ≡ record_at (bitmap_blocks (length old)) new k
same_inode old new k count = ap (λ (n : ℕ). record_at (bitmap_blocks n) new k) count

pub same_slot : (inodes : ℕ) (old new : List Octets) (k : ℕ) → length new ≡ length old
    → slot_of inodes new k ≡ record_at (bitmap_blocks (length old) + inodes / 64) new k
same_slot inodes old new k count = ap (λ (n : ℕ). record_at (bitmap_blocks n + inodes / 64) new k) count

module _ (inodes k : ℕ) (inode : Octets) (old new : List Octets) (whole : inodes % 64 ≡ 0) (low : k < inodes)
    (put : PutsRecord (bitmap_blocks (length old)) k inode old new) where
  slot_stays : (l : ℕ) → l < inodes → record_at (bitmap_blocks (length old) + inodes / 64) new l ≡ slot_of inodes old l
  slot_stays l below =
      elsewhere (bitmap_blocks (length old) + inodes / 64) l (bitmap_blocks (length old) + inodes / 64 + l / 64) old new
      (put.blocks (bitmap_blocks (length old) + inodes / 64 + l / 64) (omega arith)) refl

  -- the inode alone
  pub puts_inode : PutsEntry inodes k inode (slot_of inodes old k) (λ n. ⊥) old new
  puts_inode = record {
    count = put.count;
    inode_is = same_inode old new k put.count ∙ put.here;
    slot_is = same_slot inodes old new k put.count ∙ slot_stays k low;
    inodes_other = λ l below other. same_inode old new l put.count ∙ put.other l other;
    slots_other = λ l below other. same_slot inodes old new l put.count ∙ slot_stays l below;
    data_same = λ n high untouched. put.blocks n (omega arith);
  }

  pub inode_keeps_marks : (b : ℕ) → b < bitmap_bits (length old) → is_marked_used new b ≡ is_marked_used old b
  inode_keeps_marks = marks_same old new (bitmap_blocks (length old)) (λ t few. put.blocks t (omega (arith, few)))

module _ (inodes k : ℕ) (slot : Octets) (old new : List Octets) (whole : inodes % 64 ≡ 0) (low : k < inodes)
    (put : PutsRecord (bitmap_blocks (length old) + inodes / 64) k slot old new) where
  inode_stays : (l : ℕ) → l < inodes → record_at (bitmap_blocks (length old)) new l ≡ inode_of old l
  inode_stays l below =
      elsewhere (bitmap_blocks (length old)) l (bitmap_blocks (length old) + l / 64) old new
      (put.blocks (bitmap_blocks (length old) + l / 64) (omega arith)) refl

  -- the slot alone
  pub puts_slot : PutsEntry inodes k (inode_of old k) slot (λ n. ⊥) old new
  puts_slot = record {
    count = put.count;
    inode_is = same_inode old new k put.count ∙ inode_stays k low;
    slot_is = same_slot inodes old new k put.count ∙ put.here;
    inodes_other = λ l below other. same_inode old new l put.count ∙ inode_stays l below;
    slots_other = λ l below other. same_slot inodes old new l put.count ∙ put.other l other;
    data_same = λ n high untouched. put.blocks n (omega arith);
  }

  pub slot_keeps_marks : (b : ℕ) → b < bitmap_bits (length old) → is_marked_used new b ≡ is_marked_used old b
  slot_keeps_marks = marks_same old new (bitmap_blocks (length old)) (λ t few. put.blocks t (omega (arith, few)))

-- one change after the other
pub puts_then : (inodes k : ℕ) (inode inode' slot slot' : Octets) (a b c : List Octets) → PutsEntry inodes k inode slot (λ n. ⊥) a b
    → PutsEntry inodes k inode' slot' (λ n. ⊥) b c → PutsEntry inodes k inode' slot' (λ n. ⊥) a c
puts_then inodes k inode inode' slot slot' a b c first second = record {
  count = second.count ∙ first.count;
  inode_is = second.inode_is;
  slot_is = second.slot_is;
  inodes_other = λ l below other. second.inodes_other l below other ∙ first.inodes_other l below other;
  slots_other = λ l below other. second.slots_other l below other ∙ first.slots_other l below other;
  data_same = λ n high untouched. second.data_same n (omega (arith, high, first.count)) untouched ∙ first.data_same n high untouched;
}

-- ---- what else stays

-- a number names the same octets if its block is the same
pub indirect_same : (old new : List Octets) (n : ℕ) → (n ≢ 0 → get_or new n [] ≡ get_or old n []) → indirect_of new n ≡ indirect_of old n
indirect_same old new n same = elim (cases_eq n 0) [
  | inl none ↦ ap (λ (b : Bool). cond b [] (get_or new n [])) (eq-eqb n 0 none)
      ∙ sym (ap (λ (b : Bool). cond b [] (get_or old n [])) (eq-eqb n 0 none))
  | inr some ↦ ap (λ (o : Octets). cond (eqb n 0) [] o) (same some)
]

-- a free entry names no block of pointers
free_points : (blocks : List Octets) (inode slot : Octets) → IsFree (entry_of blocks inode slot) → (p : ℕ)
    → indirect_pointer (entry_of blocks inode slot) p ≡ 0
free_points blocks inode slot free p = by_test (eqb p 0) where
  by_test : (b : Bool) → cond b (number_at 52 4 inode) (number_at (4 * (p - 1)) 4 (indirect_of blocks (number_at 56 4 inode))) ≡ 0
  by_test true = zero_number 52 4 inode free.inode_zeros
  by_test false = ap (number_at (4 * (p - 1)) 4) (no_block blocks (number_at 56 4 inode) (zero_number 56 4 inode free.inode_zeros))
      ∙ zero_number (4 * (p - 1)) 4 [] (All-nil (λ o. o ≡ 0))

-- an entry owns each block of pointers that it names
pub named_owned : (blocks : List Octets) (inode slot : Octets) → IsFree (entry_of blocks inode slot) ⊎ IsFile (entry_of blocks inode slot)
    → (p : ℕ) → indirect_pointer (entry_of blocks inode slot) p ≢ 0
    → Contains (owned (entry_of blocks inode slot)) (indirect_pointer (entry_of blocks inode slot) p)
named_owned blocks inode slot (inl free) p some = absurd (some (free_points blocks inode slot free p))
named_owned blocks inode slot (inr file) p some = owns_indirect (entry_of blocks inode slot) p ((file.indirect_where p).1 some)

-- entries are equal if they name the same octets
pub same_entry : (old new : List Octets) (i i' s s' : Octets) → i ≡ i' → s ≡ s'
    → indirect_of new (number_at 56 4 i') ≡ indirect_of old (number_at 56 4 i')
    → ((p : ℕ) → indirect_of new (indirect_pointer (entry_of old i' s') p) ≡ indirect_of old (indirect_pointer (entry_of old i' s') p))
    → entry_of new i s ≡ entry_of old i' s'
same_entry old new i i' s s' is ss ds ps =
    ap (λ (o : Octets). entry_of new o s) is
    ∙ ap (λ (o : Octets). entry_of new i' o) ss
    ∙ (λ j. record { inode = i'; slot = s'; double = ds j; pointers = λ p. indirect_of new (indirect_number i' (ds j) p) })
    ∙ (λ j. record { inode = i'; slot = s'; double = indirect_of old (number_at 56 4 i'); pointers = λ p. ps p j })

module _ (inodes k : ℕ) (inode slot : Octets) (touched : ℕ → Type 0) (old new : List Octets)
    (puts : PutsEntry inodes k inode slot touched old new) (fs : IsFileSystem inodes old) (untouched : (l b : ℕ) → l < inodes → l ≢ k
    → Contains (owned (entry inodes old l)) b → ¬ (touched b)) where
  pub entry_other : (l : ℕ) → l < inodes → l ≢ k → entry inodes new l ≡ entry inodes old l
  entry_other l below other =
      same_entry old new (inode_of new l) (inode_of old l) (slot_of inodes new l) (slot_of inodes old l)
      (puts.inodes_other l below other) (puts.slots_other l below other)
      (indirect_same old new (double_pointer e) (λ some. stays (double_pointer e) (owns_double e some)))
      (λ p. indirect_same old new (indirect_pointer e p)
      (λ some. stays (indirect_pointer e p) (named_owned old (inode_of old l) (slot_of inodes old l) (fs.each l below) p some)))
    where
      e : FileEntry
      e = entry inodes old l

      stays : (n : ℕ) → Contains (owned (entry inodes old l)) n → get_or new n [] ≡ get_or old n []
      stays n owns = puts.data_same n ((fs.within l n below owns).0) (untouched l n below other owns)

  pub file_other : (l : ℕ) → l < inodes → l ≢ k → file_at inodes new l ≡ file_at inodes old l
  file_other l below other =
      ap (λ (e : FileEntry). cond (eqb (kind e) 0) None (Some (record { name = name_in e.slot; content = content_of new e })))
      (entry_other l below other)
      ∙ ap (λ (c : Octets). cond (eqb (kind (entry inodes old l)) 0) None
      (Some (record { name = name_in (slot_of inodes old l); content = take (size (entry inodes old l)) c })))
      (flat_map_same (λ i. get_or new (pointer (entry inodes old l) i) []) (λ i. get_or old (pointer (entry inodes old l) i) []) 0
      (block_count (entry inodes old l)) (λ i from to.
      let owns = owns_pointer (entry inodes old l) i (omega arith) in
      puts.data_same (pointer (entry inodes old l) i) ((fs.within l (pointer (entry inodes old l) i) below owns).0)
      (untouched l (pointer (entry inodes old l) i) below other owns)))

-- blocks with the same owners and marks
pub keeps_rule : (inodes : ℕ) (old new : List Octets) → IsFileSystem inodes old → length new ≡ length old
    → ((k : ℕ) → k < inodes → IsFree (entry inodes new k) ⊎ IsFile (entry inodes new k))
    → ((k : ℕ) → k < inodes → owned (entry inodes new k) ≡ owned (entry inodes old k))
    → ((b : ℕ) → b < bitmap_bits (length old) → is_marked_used new b ≡ is_marked_used old b)
    → ((k l : ℕ) → k < inodes → l < inodes → IsFile (entry inodes new k) → IsFile (entry inodes new l)
    → name_in (slot_of inodes new k) ≡ name_in (slot_of inodes new l) → k ≡ l) → IsFileSystem inodes new
keeps_rule inodes old new fs count each owners marks names = record {
  each = each;
  within = λ k b low owns. let was = fs.within k b low (to_old k b low owns) in (omega (arith, was.0, count), omega (arith, was.1));
  distinct = λ k low. subst AreDistinct (sym (owners k low)) (fs.distinct k low);
  one_owner = λ k l b low below first second. fs.one_owner k l b low below (to_old k b low first) (to_old l b below second);
  bits = λ b small. bits_at b (omega (arith, small, count));
  names_distinct = names;
}
  where
    to_old : (k b : ℕ) → k < inodes → Contains (owned (entry inodes new k)) b → Contains (owned (entry inodes old k)) b
    to_old k b low owns = subst (λ (o : List ℕ). Contains o b) (owners k low) owns

    bits_at : (b : ℕ) → b < bitmap_bits (length old) → IsTrue (is_marked_used new b) ↔ IsUsed inodes new b
    bits_at b small = subst (λ (m : Bool). IsTrue m ↔ IsUsed inodes new b) (sym (marks b small)) (
      (λ marked. elim ((fs.bits b small).0 marked) [
        | inl reserved ↦ inl (omega (arith, reserved, count))
        | inr owner ↦ inr (owner.0, owner.1, subst (λ (o : List ℕ). Contains o b) (sym (owners owner.0 owner.1)) owner.2)
      ]),
      (λ used. (fs.bits b small).1 (elim used [
        | inl reserved ↦ inl (omega (arith, reserved, count))
        | inr owner ↦ inr (owner.0, owner.1, to_old owner.0 b owner.1 owner.2)
      ])),
    )

pub keeps_room : (inodes : ℕ) (old new : List Octets) → HasRoom inodes old → length new ≡ length old → All (λ b. length b ≡ 4096) new
    → HasRoom inodes new
keeps_room inodes old new room count whole = record {
  some = room.some;
  few = room.few;
  whole = room.whole;
  room = omega (arith, room.room);
  count_few = omega (arith, room.count_few);
  blocks_whole = whole;
}
