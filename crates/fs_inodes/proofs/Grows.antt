-- A file that grows within a block.
use Rattle.std.proofs.Common.{◌≡◌, ◌≢◌, ◌⊎◌, inl, inr, ◌<◌, ◌≤◌, ℕ, ◌+◌, ◌-◌, ◌*◌, ◌/◌, ◌%◌, cond, eqb, ltb, true, false, Some}
use Rattle.std.proofs.Common.{List, [], ◌∷◌, ◌++◌, length, get_or, map, take, set, sym, ◌∙◌, ap, subst, arith, append_assoc}
use Rattle.std.proofs.Common.{length-set}
use Rattle.std.specs.List.{All, Contains, range_with_len}
use Rattle.std.proofs.lemmas.List.{get_or-set_same, get_or-set_other}
use Rattle.std.proofs.lemmas.List.Elements.{All-set}
use Rattle.std.proofs.lemmas.Bool.{cases_eq, cases_lt, false≢true}
use Rattle.byteorder.specs.Endian.{little_bytes}
use Rattle.disk.specs.Image.{part, overwritten}
use Rattle.disk.proofs.Images.{length-overwritten}
use Rattle.disk_numbers.proofs.Numbers.{number_at_apart, number_at_written}
use Rattle.model.specs.Stream.{Octets}
use Rattle.model.specs.Volume.{number_at, AreDistinct}
use Rattle.model.specs.Files.{FileEntry, HasRoom, IsFile, kind, size, block_count, double_blocks, double_pointer, entry_of, indirect_count}
use Rattle.model.specs.Files.{bitmap_bits, bitmap_blocks}
use Rattle.model.specs.Files.{indirect_for, indirect_pointer, pointer, owned, name_in, content_of, entry, inode_of, slot_of, indirect_of}
use Rattle.model.specs.Files.{first_data, is_marked_used, free_blocks, IsFileSystem, file_at, largest_file}
use Rattle.model.specs.Room.{content_blocks}
use Rattle.model.proofs.Owning.{content_size, owns_pointer}
use Rattle.model.proofs.Formats.{flat_map_same}
use Rattle.fs_layout.specs.Blocks.{PutsRecord}
use Rattle.fs_layout.specs.Touches.{TouchesData, double_of, table_of}
use Rattle.fs_layout.proofs.Touching.{is_first}
use Rattle.fs_inodes.specs.Growing.{blocks_for}
use Rattle.fs_inodes.specs.Growing.{NamesBlocks, inode_entry, tables_to, with_indirect, TakesLowest, KeepsMarks, GrowsBy}
use Rattle.fs_inodes.proofs.Owned.{owned_to, has_pointer, has_table, has_double, pointers_differ, table_not_pointer, double_not_pointer}
use Rattle.fs_inodes.proofs.Tables.{map_same_below}
use Rattle.fs_inodes.proofs.Extending.{blocks_octets, content_front, take_overwritten}
use Rattle.fs_layout.proofs.Keeps.{PutsEntry, indirect_same, same_entry, same_inode, same_slot, marks_same}
use Rattle.fs_layout.proofs.Marking.{same_free}
use Rattle.fs_inodes.proofs.Owners.{Reowns, contained, names_kept, reowned_makes}
use Rattle.fs_layout.proofs.Tables.{get_or-table, file_at_file}

-- FileEntry f has block `number` as its n-th, and may own more blocks than e: these fresh ones. No octets of data changed.
pub record Extends (first n number : ℕ) (e f : FileEntry) (old mid : List Octets) : Type 0 where
  pub count : length mid ≡ length old
  pub whole : All (λ b. length b ≡ 4096) mid
  pub inode_size : length f.inode ≡ 64
  pub kind_is : kind f ≡ 1
  pub spare : number_at 60 4 f.inode ≡ 0
  pub here : pointer f n ≡ number
  pub same_pointers : (i : ℕ) → i ≢ n → pointer f i ≡ pointer e i
  pub names : NamesBlocks (indirect_for (n + 1)) f mid
  pub double_stays : (double_pointer e ≡ 0) ⊎ (double_pointer f ≡ double_pointer e)
  pub tables_stay : (p : ℕ) → (indirect_pointer e p ≡ 0) ⊎ (indirect_pointer f p ≡ indirect_pointer e p)
  pub blocks : (b : ℕ) → bitmap_blocks (length old) ≤ b → ((i : ℕ) → block_count e ≤ i → i < n + 1
      → (b ≢ double_pointer f) × (b ≢ indirect_pointer f ((i - 10) / 1024))) → get_or mid b [] ≡ get_or old b []
  pub fresh : List ℕ
  pub fresh_free : (b : ℕ) → Contains fresh b → (first ≤ b) × (b < length old) × (is_marked_used old b ≡ false)
  pub fresh_marked : (b : ℕ) → Contains fresh b → is_marked_used mid b ≡ true
  pub other_marks : (b : ℕ) → b < bitmap_bits (length old) → ¬ (Contains fresh b) → is_marked_used mid b ≡ is_marked_used old b
  pub lowest : TakesLowest old mid
  pub source : (b : ℕ) → Contains (owned_to f (n + 1)) b → Contains (owned e) b ⊎ Contains fresh b
  pub fresh_owned : (b : ℕ) → Contains fresh b → Contains (owned_to f (n + 1)) b
  pub still_owned : (b : ℕ) → Contains (owned e) b → Contains (owned_to f (n + 1)) b
  pub distinct : AreDistinct (owned_to f (n + 1))
  pub free : free_blocks mid + with_indirect (n + 1) ≡ free_blocks old + blocks_for (size e)

module _ (inodes k n r number : ℕ) (piece block inode : Octets) (old mid new : List Octets) (room : HasRoom inodes old)
    (fs : IsFileSystem inodes old) (low : k < inodes) (file : IsFile (entry inodes old k))
    (sized : size (entry inodes old k) ≡ 4096 * n + r) (inside : r + length piece ≤ 4096) (some : 0 < length piece)
    (small : size (entry inodes old k) + length piece ≤ largest_file)
    (ext : Extends (first_data (length old) inodes) n number (entry inodes old k) (inode_entry mid inode) old mid)
    (block_size : length block ≡ 4096)
    (front : take r block ≡ take r (get_or old (pointer (entry inodes old k) n) []))
    (put_now : PutsRecord (bitmap_blocks (length (set mid number (overwritten r piece block)))) k
    (overwritten 4 (little_bytes 8 (size (entry inodes old k) + length piece)) inode)
    (set mid number (overwritten r piece block)) new) where
  put : PutsRecord (bitmap_blocks (length old)) k (overwritten 4 (little_bytes 8 (size (entry inodes old k) + length piece)) inode)
      (set mid number (overwritten r piece block)) new
  put = subst (λ (n : ℕ). PutsRecord (bitmap_blocks n) k (overwritten 4 (little_bytes 8 (size (entry inodes old k) + length piece)) inode)
      (set mid number (overwritten r piece block)) new) (length-set mid number (overwritten r piece block) ∙ ext.count) put_now

  e : FileEntry
  e = entry inodes old k

  abbrev inode_after : Octets
  inode_after = overwritten 4 (little_bytes 8 (size (entry inodes old k) + length piece)) inode

  abbrev f : FileEntry
  f = inode_entry mid inode

  -- the entry with its new size
  abbrev after : FileEntry
  after = entry_of mid inode_after (slot_of inodes old k)

  n_few : n < 1048576
  n_few = omega (arith, sized, small, some)

  -- ---- blocks

  owned_within : (b : ℕ) → Contains (owned_to f (n + 1)) b → (first_data (length old) inodes ≤ b) × (b < length old)
  owned_within b has = elim (ext.source b has) [
    | inl was ↦ let within = fs.within k b low was in (within.0, within.1)
    | inr fresh ↦ let free = ext.fresh_free b fresh in (free.0, free.1)
  ]

  number_within : (first_data (length old) inodes ≤ number) × (number < length old)
  number_within = subst (λ (b : ℕ). (first_data (length old) inodes ≤ b) × (b < length old)) ext.here
      (owned_within (pointer f n) (has_pointer f (n + 1) n (omega arith)))

  -- each block that names blocks is 0, or the file owns it
  double_cases : (double_pointer f ≡ 0) ⊎ Contains (owned_to f (n + 1)) (double_pointer f)
  double_cases = elim (cases_eq (double_pointer f) 0) [ inl none ↦ inl none | inr has ↦ inr (has_double f (n + 1) has) ]

  table_cases : (p : ℕ) → (indirect_pointer f p ≡ 0) ⊎ Contains (owned_to f (n + 1)) (indirect_pointer f p)
  table_cases p = elim (cases_lt p (indirect_for (n + 1))) [
    | inl less ↦ inr (has_table f (n + 1) p less)
    | inr past ↦ inl (ext.names.none p past)
  ]

  double_not_number : double_pointer f ≢ number
  double_not_number same = elim (cases_eq (double_pointer f) 0) [
    | inl none ↦ absurd (omega (arith, number_within.0, same, none))
    | inr has ↦ double_not_pointer f (n + 1) ext.distinct n has (omega arith) (same ∙ sym ext.here)
  ]

  table_not_number : (p : ℕ) → indirect_pointer f p ≢ number
  table_not_number p same = elim (cases_lt p (indirect_for (n + 1))) [
    | inl less ↦ table_not_pointer f (n + 1) ext.distinct p n less (omega arith) (same ∙ sym ext.here)
    | inr past ↦ absurd (let none = ext.names.none p past in omega (arith, number_within.0, same, none))
  ]

  elsewhere : (b : ℕ) → b ≢ bitmap_blocks (length old) + k / 64 → b ≢ number → get_or new b [] ≡ get_or mid b []
  elsewhere b other apart = put.blocks b other ∙ get_or-set_other mid number b (overwritten r piece block) [] apart

  data_new : (b : ℕ) → first_data (length old) inodes ≤ b → b ≢ number → get_or new b [] ≡ get_or mid b []
  data_new b high apart = elsewhere b (omega (arith, room.whole)) apart

  at_number : get_or new number [] ≡ overwritten r piece block
  at_number =
      put.blocks number (omega (arith, room.whole, number_within.0))
      ∙ get_or-set_same mid number (overwritten r piece block) [] (omega (arith, ext.count, number_within.1))

  named_high : (m : ℕ) → m ≢ 0 → (m ≡ 0) ⊎ Contains (owned_to f (n + 1)) m → first_data (length old) inodes ≤ m
  named_high m some cases = elim cases [ inl none ↦ absurd (some none) | inr has ↦ (owned_within m has).0 ]

  -- a block that the file does not own
  mid_other : (b : ℕ) → bitmap_blocks (length old) ≤ b → (b ≡ 0) ⊎ (Contains (owned_to f (n + 1)) b → ⊥) → get_or mid b [] ≡ get_or old b []
  mid_other b some_b cases = ext.blocks b some_b
      (λ i above below. (
        apart (double_pointer f) double_cases,
        apart (indirect_pointer f ((i - 10) / 1024)) (table_cases ((i - 10) / 1024)),
      ))
    where
      apart : (m : ℕ) → (m ≡ 0) ⊎ Contains (owned_to f (n + 1)) m → b ≢ m
      apart m named same = elim named [
        | inl none ↦ absurd (omega (arith, some_b, same, none))
        | inr has ↦ elim cases [
          | inl none ↦ absurd (omega (arith, some_b, none))
          | inr lacks ↦ lacks (subst (λ (c : ℕ). Contains (owned_to f (n + 1)) c) (sym same) has)
        ]
      ]

  mid_reserved : (b : ℕ) → bitmap_blocks (length old) ≤ b → b < first_data (length old) inodes → get_or mid b [] ≡ get_or old b []
  mid_reserved b some_b high = mid_other b some_b (inr (λ has. absurd (let inside = (owned_within b has).0 in omega (arith, inside, high))))

  -- ---- the entry

  same_number : (a w : ℕ) → (a + w ≤ 4) ⊎ (12 ≤ a) → number_at a w inode_after ≡ number_at a w inode
  same_number a w apart =
      number_at_apart 4 (little_bytes 8 (size (entry inodes old k) + length piece)) inode (omega (arith, ext.inode_size)) a w
      (elim apart [ inl before ↦ inl before | inr behind ↦ inr (omega arith) ])

  same_double : number_at 56 4 inode_after ≡ number_at 56 4 inode
  same_double = same_number 56 4 (inr (omega arith))

  table_after : (p : ℕ) → indirect_pointer after p ≡ indirect_pointer f p
  table_after p =
      ap (λ (m : ℕ). cond (eqb p 0) m (number_at (4 * (p - 1)) 4 (indirect_of mid (number_at 56 4 inode_after))))
      (same_number 52 4 (inr (omega arith)))
      ∙ ap (λ (m : ℕ). cond (eqb p 0) (number_at 52 4 inode) (number_at (4 * (p - 1)) 4 (indirect_of mid m))) same_double

  double_octets : indirect_of new (number_at 56 4 inode_after) ≡ indirect_of mid (number_at 56 4 inode_after)
  double_octets =
      ap (indirect_of new) same_double
      ∙ indirect_same mid new (double_pointer f)
      (λ some_d. data_new (double_pointer f) (named_high (double_pointer f) some_d double_cases) double_not_number)
      ∙ sym (ap (indirect_of mid) same_double)

  table_octets : (p : ℕ) → indirect_of new (indirect_pointer after p) ≡ indirect_of mid (indirect_pointer after p)
  table_octets p =
      ap (indirect_of new) (table_after p)
      ∙ indirect_same mid new (indirect_pointer f p)
      (λ some_t. data_new (indirect_pointer f p) (named_high (indirect_pointer f p) some_t (table_cases p)) (table_not_number p))
      ∙ sym (ap (indirect_of mid) (table_after p))

  slot_same : (l : ℕ) → l < inodes → slot_of inodes new l ≡ slot_of inodes old l
  slot_same l below =
      same_slot inodes old new l (put.count ∙ length-set mid number (overwritten r piece block) ∙ ext.count)
      ∙ ap (λ (b : Octets). part (l % 64 * 64) 64 b) (
      elsewhere (bitmap_blocks (length old) + inodes / 64 + l / 64) (omega (arith, room.whole)) (omega (arith, number_within.0, room.whole))
      ∙ mid_reserved (bitmap_blocks (length old) + inodes / 64 + l / 64) (omega arith) (omega (arith, room.whole)))

  inode_other : (l : ℕ) → l < inodes → l ≢ k → inode_of new l ≡ inode_of old l
  inode_other l below other =
      same_inode old new l (put.count ∙ length-set mid number (overwritten r piece block) ∙ ext.count)
      ∙ put.other l other
      ∙ ap (λ (b : Octets). part (l % 64 * 64) 64 b) (
      get_or-set_other mid number (bitmap_blocks (length old) + l / 64) (overwritten r piece block) []
      (omega (arith, number_within.0, room.whole))
      ∙ mid_reserved (bitmap_blocks (length old) + l / 64) (omega arith) (omega (arith, room.whole)))

  entry_is : entry inodes new k ≡ after
  entry_is = same_entry mid new (inode_of new k) inode_after (slot_of inodes new k) (slot_of inodes old k)
      (same_inode old new k (put.count ∙ length-set mid number (overwritten r piece block) ∙ ext.count) ∙ put.here)
      (slot_same k low) double_octets table_octets

  size_after : size after ≡ size (entry inodes old k) + length piece
  size_after = number_at_written 4 8 (size (entry inodes old k) + length piece) inode (omega (arith, ext.inode_size)) (omega arith)

  count_after : block_count after ≡ n + 1
  count_after = omega (arith, size_after, sized, inside, some)

  pointer_after : (i : ℕ) → pointer after i ≡ pointer f i
  pointer_after i =
      ap (λ (m : ℕ). cond (ltb i 10) m (number_at (4 * ((i - 10) % 1024)) 4 (indirect_of mid (indirect_pointer after ((i - 10) / 1024)))))
      (same_number (12 + 4 * i) 4 (inr (omega arith)))
      ∙ ap (λ (m : ℕ). cond (ltb i 10) (number_at (12 + 4 * i) 4 inode) (number_at (4 * ((i - 10) % 1024)) 4 (indirect_of mid m)))
      (table_after ((i - 10) / 1024))

  owned_after : owned after ≡ owned_to f (n + 1)
  owned_after =
      ap (λ (m : ℕ). owned_to after m) count_after
      ∙ ap (λ (m : ℕ). cond (eqb m 0) [] (m ∷ []) ++
      (tables_to after (indirect_for (n + 1)) ++ map (λ i. pointer after i) (range_with_len 0 (n + 1)))) same_double
      ∙ ap (λ (l : List ℕ). double_blocks f ++ (l ++ map (λ i. pointer after i) (range_with_len 0 (n + 1))))
      (map_same_below (λ p. indirect_pointer after p) (λ p. indirect_pointer f p) 0 (indirect_for (n + 1)) (λ p less. table_after p))
      ∙ ap (λ (l : List ℕ). double_blocks f ++ (tables_to f (indirect_for (n + 1)) ++ l))
      (map_same_below (λ i. pointer after i) (λ i. pointer f i) 0 (n + 1) (λ i less. pointer_after i))

  tables_after : indirect_for (n + 1) ≡ indirect_count after
  tables_after = ap indirect_for (sym count_after)

  is_file : IsFile after
  is_file = record {
    kind_is = same_number 0 4 (inl (omega arith)) ∙ ext.kind_is;
    small = omega (arith, size_after, small);
    spare = same_number 60 4 (inr (omega arith)) ∙ ext.spare;
    double_where = (
      (λ more none. absurd (let there = (ext.names.double (subst (λ (t : ℕ). 1 < t) (sym tables_after) more)).some in
          omega (arith, there, none, same_double))),
      (λ has. elim (cases_lt 1 (indirect_for (n + 1))) [
        | inl more ↦ subst (λ (t : ℕ). 1 < t) tables_after more
        | inr less ↦ absurd (has (same_double ∙ ext.names.no_double less))
      ]),
    );
    indirect_where = λ p. (
      (λ less none. absurd (let there = (ext.names.there p (subst (λ (t : ℕ). p < t) (sym tables_after) less)).some in
          let is = table_after p in omega (arith, there, none, is))),
      (λ has. elim (cases_lt p (indirect_for (n + 1))) [
        | inl less ↦ subst (λ (t : ℕ). p < t) tables_after less
        | inr past ↦ absurd (has (table_after p ∙ ext.names.none p past))
      ]),
    );
    no_other_pointer = λ i high. pointer_after i ∙ ext.same_pointers i (omega (arith, high, count_after))
        ∙ file.no_other_pointer i (omega (arith, high, count_after, sized, inside, some));
    name_some = file.name_some;
    name_few = file.name_few;
    slot_is = file.slot_is;
  }

  -- ---- content

  new_whole : All (λ b. length b ≡ 4096) new
  new_whole = put.whole (All-set (λ b. length b ≡ 4096) mid number (overwritten r piece block)
      (length-overwritten r piece block (omega arith) ∙ block_size) ext.whole)

  count_is : length new ≡ length old
  count_is = put.count ∙ length-set mid number (overwritten r piece block) ∙ ext.count

  whole_before : (i : ℕ) → i < n → length (get_or old (pointer (entry inodes old k) i) []) ≡ 4096
  whole_before i early =
      room.blocks_whole (pointer (entry inodes old k) i) []
      ((fs.within k (pointer (entry inodes old k) i) low (owns_pointer (entry inodes old k) i (omega (arith, sized)))).1)

  whole_after : (i : ℕ) → i < n → length (get_or new (pointer after i) []) ≡ 4096
  whole_after i early =
      ap (λ (b : ℕ). length (get_or new b [])) (pointer_after i)
      ∙ new_whole (pointer f i) [] (omega (arith, count_is, (owned_within (pointer f i) (has_pointer f (n + 1) i (omega arith))).1))

  -- the blocks before it
  same_front : blocks_octets new after n ≡ blocks_octets old (entry inodes old k) n
  same_front = flat_map_same (λ i. get_or new (pointer after i) []) (λ i. get_or old (pointer (entry inodes old k) i) []) 0 n
      (λ i from to. one i (omega arith))
    where
      one : (i : ℕ) → i < n → get_or new (pointer after i) [] ≡ get_or old (pointer (entry inodes old k) i) []
      one i early =
          let within = owned_within (pointer f i) (has_pointer f (n + 1) i (omega arith)) in
          let apart : pointer f i ≢ number = λ same. pointers_differ f (n + 1) ext.distinct i n early (omega arith) (same ∙ sym ext.here) in
          let not_double : pointer f i ≢ double_pointer f = λ same. elim (cases_eq (double_pointer f) 0) [
            | inl none ↦ absurd (omega (arith, within.0, same, none))
            | inr has ↦ double_not_pointer f (n + 1) ext.distinct i has (omega (arith, early)) (sym same)
          ] in
          let not_table : (p : ℕ) → pointer f i ≢ indirect_pointer f p = λ p same. elim (cases_lt p (indirect_for (n + 1))) [
            | inl less ↦ table_not_pointer f (n + 1) ext.distinct p i less (omega (arith, early)) (sym same)
            | inr past ↦ absurd (let none = ext.names.none p past in omega (arith, within.0, same, none))
          ] in
          ap (λ (b : ℕ). get_or new b []) (pointer_after i) ∙ data_new (pointer f i) within.0 apart
          ∙ ext.blocks (pointer f i) (omega (arith, within.0)) (λ j above below. (not_double, not_table ((j - 10) / 1024)))
          ∙ ap (λ (b : ℕ). get_or old b []) (ext.same_pointers i (omega (arith, early)))

  content_after : content_of new after ≡ content_of old (entry inodes old k) ++ piece
  content_after =
      content_front new after n (r + length piece) (size_after
      ∙ (let sum : size (entry inodes old k) + length piece ≡ 4096 * n + (r + length piece) = omega (arith, sized) in sum)) inside
      whole_after
      ∙ ap (λ (l : Octets). l ++ take (r + length piece) (get_or new (pointer after n) [])) same_front
      ∙ ap (λ (l : Octets). blocks_octets old (entry inodes old k) n ++ l) (
      ap (λ (b : ℕ). take (r + length piece) (get_or new b [])) (pointer_after n ∙ ext.here)
      ∙ ap (λ (l : Octets). take (r + length piece) l) at_number
      ∙ take_overwritten r piece block (omega (arith, block_size))
      ∙ ap (λ (l : Octets). l ++ piece) front)
      ∙ sym (append_assoc (blocks_octets old (entry inodes old k) n) (take r (get_or old (pointer (entry inodes old k) n) [])) piece)
      ∙ ap (λ (l : Octets). l ++ piece) (sym (content_front old (entry inodes old k) n r sized (omega arith) whole_before))

  -- ---- the rule of blocks

  mark_new : (b : ℕ) → b < bitmap_bits (length old) → is_marked_used new b ≡ is_marked_used mid b
  mark_new = marks_same mid new (bitmap_blocks (length old))
      (λ t few_t. elsewhere t (omega (arith, few_t)) (omega (arith, number_within.0, few_t)))

  abbrev touched : ℕ → Type 0
  touched b = Contains (owned_to f (n + 1)) b

  puts : PutsEntry inodes k inode_after (slot_of inodes old k) touched old new
  puts = record {
    count = count_is;
    inode_is = same_inode old new k count_is ∙ put.here;
    slot_is = slot_same k low;
    inodes_other = inode_other;
    slots_other = λ l below other. slot_same l below;
    data_same = λ b high untouched.
        data_new b high (λ same. untouched
        (subst (λ (c : ℕ). Contains (owned_to f (n + 1)) c) (ext.here ∙ sym same) (has_pointer f (n + 1) n (omega arith))))
        ∙ mid_other b (omega (arith, high)) (inr untouched);
  }

  owned_here : owned (entry inodes new k) ≡ owned_to f (n + 1)
  owned_here = ap owned entry_is ∙ owned_after

  to_f : (b : ℕ) → Contains (owned (entry inodes new k)) b → Contains (owned_to f (n + 1)) b
  to_f b = subst (λ (o : List ℕ). Contains o b) owned_here

  from_f : (b : ℕ) → Contains (owned_to f (n + 1)) b → Contains (owned (entry inodes new k)) b
  from_f b = subst (λ (o : List ℕ). Contains o b) (sym owned_here)

  was_marked : (l b : ℕ) → l < inodes → Contains (owned (entry inodes old l)) b → is_marked_used old b ≡ true
  was_marked l b below has = (fs.bits b (omega (arith, (fs.within l b below has).1, room.count_few))).1 (inr (l, below, has))

  unshared : (l b : ℕ) → l < inodes → l ≢ k → Contains (owned (entry inodes old l)) b → ¬ (Contains (owned_to f (n + 1)) b)
  unshared l b below other has here = elim (ext.source b here) [
    | inl was ↦ other (fs.one_owner l k b below low has was)
    | inr fresh ↦ false≢true (sym (ext.fresh_free b fresh).2 ∙ was_marked l b below has)
  ]

  -- what was marked stays so
  marks_kept : KeepsMarks old new
  marks_kept b small_b marked = mark_new b small_b ∙ elim (contained ext.fresh b) [
    | inl fresh ↦ ext.fresh_marked b fresh
    | inr not_fresh ↦ ext.other_marks b small_b not_fresh ∙ marked
  ]

  reowns : Reowns inodes k touched old new
  reowns = record {
    here = inr (subst IsFile (sym entry_is) is_file);
    untouched = unshared;
    distinct = subst AreDistinct (sym owned_here) ext.distinct;
    within = λ b has. owned_within b (to_f b has);
    source = λ b has. elim (ext.source b (to_f b has)) [
      | inl was ↦ inl was
      | inr fresh ↦ inr ((ext.fresh_free b fresh).2)
    ];
    taken = λ b has.
        let small_b : b < bitmap_bits (length old) = omega (arith, (owned_within b (to_f b has)).1, room.count_few) in
        elim (ext.source b (to_f b has)) [
          | inl was ↦ marks_kept b small_b (was_marked k b low was)
          | inr fresh ↦ mark_new b small_b ∙ ext.fresh_marked b fresh
        ];
    left = λ b small_b had lacks. absurd (lacks (from_f b (ext.still_owned b had)));
    same = λ b small_b never lacks. mark_new b small_b ∙ ext.other_marks b small_b (λ fresh. lacks (from_f b (ext.fresh_owned b fresh)));
  }

  file_here : file_at inodes new k
      ≡ Some (record { name = name_in (slot_of inodes old k); content = content_of old (entry inodes old k) ++ piece })
  file_here =
      file_at_file inodes new k (subst IsFile (sym entry_is) is_file)
      ∙ ap (λ (s : Octets). Some (record { name = name_in s; content = content_of new (entry inodes new k) })) (slot_same k low)
      ∙ ap (λ (c : Octets). Some (record { name = name_in (slot_of inodes old k); content = c }))
      (ap (λ (g : FileEntry). content_of new g) entry_is ∙ content_after)

  free_is : free_blocks new + blocks_for (size (entry inodes old k) + length piece) ≡ free_blocks old + blocks_for
      (size (entry inodes old k))
  free_is =
      let count : (size (entry inodes old k) + length piece + 4095) / 4096 ≡ n + 1 = omega (arith, sized, inside, some) in
      let free : free_blocks new ≡ free_blocks mid =
      same_free mid new (put.count ∙ length-set mid number (overwritten r piece block))
      (λ b inside_b. mark_new b (omega (arith, ext.count, room.count_few))) in
      ap (λ (m : ℕ). m + blocks_for (size (entry inodes old k) + length piece)) free
      ∙ ap (λ (m : ℕ). free_blocks mid + with_indirect m) count
      ∙ ext.free

  size_was : length (content_of old (entry inodes old k)) ≡ size (entry inodes old k)
  size_was = content_size old (entry inodes old k) room.blocks_whole (λ b owns. (fs.within k b low owns).1)

  grows : GrowsBy inodes k piece old new
  grows = record {
    count = count_is;
    name = name_in (slot_of inodes old k);
    was = content_of old (entry inodes old k);
    there = get_or-table inodes old k low ∙ file_at_file inodes old k file;
    makes =
        reowned_makes inodes k inode_after (slot_of inodes old k) touched old new low fs puts reowns room new_whole
        (names_kept inodes k inode_after (slot_of inodes old k) touched old new low fs puts reowns file (slot_same k low))
        (Some (record { name = name_in (slot_of inodes old k); content = content_of old (entry inodes old k) ++ piece })) file_here;
    lowest = λ b c low_b low_c was now free.
        ext.lowest b c (omega (arith, ext.count, count_is)) (omega (arith, ext.count, count_is)) was
        (sym (mark_new b (omega (arith, count_is, room.count_few))) ∙ now) (sym (mark_new c (omega (arith, count_is, room.count_few)))
        ∙ free);
    kept = marks_kept;
    free = ap (λ (m : ℕ). free_blocks new + blocks_for (m + length piece)) size_was ∙ free_is
        ∙ ap (λ (m : ℕ). free_blocks old + blocks_for m) (sym size_was);
  }

  -- ---- the blocks that it touches

  double_new : double_of new k ≡ double_pointer f
  double_new = ap (λ (o : Octets). number_at 56 4 o) (same_inode old new k count_is ∙ put.here) ∙ same_double

  table_new : (p : ℕ) → table_of new k p ≡ indirect_pointer f p
  table_new p = ap (λ (g : FileEntry). indirect_pointer g p) entry_is ∙ table_after p

  touches : TouchesData k (number ∷ []) (content_blocks (size (entry inodes old k)))
      (content_blocks (size (entry inodes old k) + length piece)) old new
  touches =
      let end : n + 1 ≡ content_blocks (size (entry inodes old k) + length piece) = omega (arith, sized, inside, some) in
      subst (λ (m : ℕ). TouchesData k (number ∷ []) (content_blocks (size (entry inodes old k))) m old new) end record {
        count = count_is;
        same = λ b some_b other named lacks.
            elsewhere b other (λ is. lacks (is_first number [] b is))
            ∙ ext.blocks b some_b (λ i above below. (
              (λ is. (named i above below).0 (is ∙ sym double_new)),
              (λ is. (named i above below).1 (is ∙ sym (table_new ((i - 10) / 1024)))),
            ));
        double = elim ext.double_stays [ inl none ↦ inl none | inr stays ↦ inr (double_new ∙ stays) ];
        tables = λ p. elim (ext.tables_stay p) [ inl none ↦ inl none | inr stays ↦ inr (table_new p ∙ stays) ];
      }

  pub grown : GrowsBy inodes k piece old new × TouchesData k (number ∷ []) (content_blocks (size (entry inodes old k)))
      (content_blocks (size (entry inodes old k) + length piece)) old new
  grown = (grows, touches)
