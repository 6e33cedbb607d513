-- A file that loses its last block.
use Rattle.std.proofs.Common.{◌≡◌, ◌≢◌, ◌⊎◌, inl, inr, ◌<◌, ◌≤◌, ℕ, ◌+◌, ◌-◌, ◌*◌, ◌/◌, ◌%◌, cond, eqb, ltb, false, List}
use Rattle.std.proofs.Common.{[], ◌∷◌, ◌++◌, length, get_or, map, take, refl, sym, ◌∙◌, ap, subst, arith}
use Rattle.std.specs.List.{All, Contains, range_with_len}
use Rattle.std.proofs.lemmas.List.Elements.{Contains-append_cases, Contains-append_left, Contains-append_right}
use Rattle.std.proofs.lemmas.List.FromFn.{map-range_with_len_more}
use Rattle.std.proofs.lemmas.Bool.{cases_eq, cases_lt, false≢true}
use Rattle.byteorder.specs.Endian.{little_bytes}
use Rattle.disk.specs.Image.{overwritten, part}
use Rattle.disk_numbers.proofs.Numbers.{number_at_apart, number_at_written}
use Rattle.model.specs.Stream.{Octets}
use Rattle.model.specs.Volume.{number_at, AreDistinct}
use Rattle.model.specs.Files.{FileEntry, HasRoom, IsFile, IsFileSystem, size, block_count, content_of, double_blocks, double_pointer, entry}
use Rattle.model.specs.Files.{bitmap_bits, bitmap_blocks}
use Rattle.model.specs.Files.{entry_of, first_data, indirect_count, indirect_for, indirect_of, indirect_pointer, inode_of, is_marked_used}
use Rattle.model.specs.Files.{owned, pointer, slot_of}
use Rattle.model.proofs.Owning.{owns_pointer}
use Rattle.fs_layout.specs.Blocks.{PutsRecord}
use Rattle.fs_layout.specs.Marks.{SetsMark}
use Rattle.fs_layout.specs.Touches.{TouchesInode, double_of, table_of}
use Rattle.fs_layout.proofs.Entries.{owns_double, owns_indirect}
use Rattle.fs_layout.proofs.Keeps.{PutsEntry, indirect_same, marks_same, same_entry, same_inode, same_slot}
use Rattle.fs_inodes.specs.Changes.{ReplacesContent, TakesNone}
use Rattle.fs_inodes.specs.Growing.{NamesBlocks, inode_entry, tables_to}
use Rattle.fs_inodes.specs.Shrinking.{DropsPointer}
use Rattle.fs_layout.proofs.Distinct.{three_cases, three_new, three_split, three_were}
use Rattle.fs_layout.proofs.Touching.{one_number}
use Rattle.fs_inodes.proofs.Fields.{content_front, length-inode}
use Rattle.fs_inodes.proofs.Named.{file_names, owned_marked}
use Rattle.fs_inodes.proofs.Owned.{double_not_pointer, owned_to, table_not_pointer}
use Rattle.fs_inodes.proofs.Owners.{Reowns, contained, names_kept, reowned_rule}
use Rattle.fs_inodes.proofs.Replacing.{replaces}
use Rattle.fs_inodes.proofs.Tables.{map_same_below}

-- the file without its last block, and the blocks that change
pub record DropsLast (inodes k last : ℕ) (old new : List Octets) : Type 0 where
  pub shorter : ReplacesContent inodes k (take (4096 * last) (content_of old (entry inodes old k))) old new
  pub none_taken : TakesNone old new
  pub touches : TouchesInode k last (last + 1) old new

module _ (inodes k last number : ℕ) (inode1 : Octets) (old mid later new : List Octets) (room : HasRoom inodes old)
    (fs : IsFileSystem inodes old) (low : k < inodes) (file : IsFile (entry inodes old k))
    (counted : last + 1 ≡ block_count (entry inodes old k)) (number_is : number ≡ pointer (entry inodes old k) last)
    (drop : DropsPointer last (inode_of old k) inode1 old mid) (unmarks : SetsMark number false mid later)
    (put_now : PutsRecord (bitmap_blocks (length later)) k (overwritten 4 (little_bytes 8 (4096 * last)) inode1) later new) where
  put : PutsRecord (bitmap_blocks (length old)) k (overwritten 4 (little_bytes 8 (4096 * last)) inode1) later new
  put = subst (λ (n : ℕ). PutsRecord (bitmap_blocks n) k (overwritten 4 (little_bytes 8 (4096 * last)) inode1) later new)
      (unmarks.count ∙ drop.count) put_now

  count_new : length new ≡ length old
  count_new = put.count ∙ unmarks.count ∙ drop.count

  abbrev e : FileEntry
  e = entry inodes old k

  abbrev f : FileEntry
  f = inode_entry mid inode1

  abbrev inode : Octets
  inode = overwritten 4 (little_bytes 8 (4096 * last)) inode1

  -- the entry with its new size
  abbrev after : FileEntry
  after = entry_of mid inode (slot_of inodes old k)

  wide : length inode1 ≡ 64
  wide = drop.size ∙ length-inode inodes k old room low

  named : NamesBlocks (indirect_for (block_count (entry inodes old k))) (inode_entry old (inode_of old k)) old
  named = file_names inodes k old room fs low file

  -- ---- blocks

  owned_within : (b : ℕ) → Contains (owned (entry inodes old k)) b → (first_data (length old) inodes ≤ b) × (b < length old)
  owned_within b has = fs.within k b low has

  elsewhere : (b : ℕ) → bitmap_blocks (length old) ≤ b → b ≢ bitmap_blocks (length old) + k / 64 → get_or new b [] ≡ get_or mid b []
  elsewhere b some other = put.blocks b other ∙ unmarks.blocks b (omega (arith, some, drop.count))

  data_new : (b : ℕ) → first_data (length old) inodes ≤ b → get_or new b [] ≡ get_or mid b []
  data_new b high = elsewhere b (omega (arith, high)) (omega (arith, high, room.whole, low))

  -- each block that names blocks is 0, or the file owns it
  double_cases : (double_pointer e ≡ 0) ⊎ Contains (owned (entry inodes old k)) (double_pointer e)
  double_cases = elim (cases_eq (double_pointer e) 0) [ inl none ↦ inl none | inr some ↦ inr (owns_double e some) ]

  table_cases : (p : ℕ) → (indirect_pointer e p ≡ 0) ⊎ Contains (owned (entry inodes old k)) (indirect_pointer e p)
  table_cases p = elim (cases_lt p (indirect_count e)) [ inl less ↦ inr (owns_indirect e p less) | inr past ↦ inl (named.none p past) ]

  -- a block that the file does not own
  mid_other : (b : ℕ) → bitmap_blocks (length old) ≤ b → (Contains (owned (entry inodes old k)) b → ⊥) → get_or mid b [] ≡ get_or old b []
  mid_other b some lacks = drop.blocks b some (apart (double_pointer e) double_cases)
      (apart (indirect_pointer e ((last - 10) / 1024)) (table_cases ((last - 10) / 1024)))
    where
      apart : (m : ℕ) → (m ≡ 0) ⊎ Contains (owned (entry inodes old k)) m → b ≢ m
      apart m cases same = elim cases [
        | inl none ↦ absurd (omega (arith, some, same, none))
        | inr has ↦ lacks (subst (λ (n : ℕ). Contains (owned (entry inodes old k)) n) (sym same) has)
      ]

  mid_reserved : (b : ℕ) → bitmap_blocks (length old) ≤ b → b < first_data (length old) inodes → get_or mid b [] ≡ get_or old b []
  mid_reserved b some high = mid_other b some (λ has. absurd (let inside = (owned_within b has).0 in omega (arith, inside, high)))

  -- ---- the entry

  same_number : (a w : ℕ) → (a + w ≤ 4) ⊎ (12 ≤ a) → number_at a w inode ≡ number_at a w inode1
  same_number a w apart = number_at_apart 4 (little_bytes 8 (4096 * last)) inode1 (omega (arith, wide)) a w
      (elim apart [ inl before ↦ inl before | inr behind ↦ inr (omega (arith, behind)) ])

  same_double : number_at 56 4 inode ≡ number_at 56 4 inode1
  same_double = same_number 56 4 (inr (omega arith))

  table_after : (p : ℕ) → indirect_pointer after p ≡ indirect_pointer f p
  table_after p =
      ap (λ (m : ℕ). cond (eqb p 0) m (number_at (4 * (p - 1)) 4 (indirect_of mid (number_at 56 4 inode))))
      (same_number 52 4 (inr (omega arith)))
      ∙ ap (λ (m : ℕ). cond (eqb p 0) (number_at 52 4 inode1) (number_at (4 * (p - 1)) 4 (indirect_of mid m))) same_double

  pointer_after : (i : ℕ) → pointer after i ≡ pointer f i
  pointer_after i =
      ap (λ (m : ℕ). cond (ltb i 10) m (number_at (4 * ((i - 10) % 1024)) 4 (indirect_of mid (indirect_pointer after ((i - 10) / 1024)))))
      (same_number (12 + 4 * i) 4 (inr (omega arith)))
      ∙ ap (λ (m : ℕ). cond (ltb i 10) (number_at (12 + 4 * i) 4 inode1) (number_at (4 * ((i - 10) % 1024)) 4 (indirect_of mid m)))
      (table_after ((i - 10) / 1024))

  -- the blocks that it still names
  double_high : double_pointer f ≢ 0 → first_data (length old) inodes ≤ double_pointer f
  double_high some = elim (cases_lt 1 (indirect_for last)) [
    | inl more ↦
        let same : double_pointer f ≡ double_pointer e = drop.double more in
        let high = (owned_within (double_pointer e) (owns_double e (λ none. some (same ∙ none)))).0 in
        omega (arith, high, same)
    | inr less ↦ absurd (some (drop.no_double less))
  ]

  table_high : (p : ℕ) → indirect_pointer f p ≢ 0 → first_data (length old) inodes ≤ indirect_pointer f p
  table_high p some = elim (cases_lt p (indirect_for last)) [
    | inl less ↦
        let same : indirect_pointer f p ≡ indirect_pointer e p = drop.table p less in
        let high = (owned_within (indirect_pointer e p) (owns_indirect e p (omega (arith, less, counted)))).0 in
        omega (arith, high, same)
    | inr past ↦ absurd (some (drop.no_table p past))
  ]

  double_octets : indirect_of new (number_at 56 4 inode) ≡ indirect_of mid (number_at 56 4 inode)
  double_octets =
      ap (indirect_of new) same_double ∙ indirect_same mid new (double_pointer f) (λ some. data_new (double_pointer f) (double_high some))
      ∙ sym (ap (indirect_of mid) same_double)

  table_octets : (p : ℕ) → indirect_of new (indirect_pointer after p) ≡ indirect_of mid (indirect_pointer after p)
  table_octets p =
      ap (indirect_of new) (table_after p)
      ∙ indirect_same mid new (indirect_pointer f p) (λ some. data_new (indirect_pointer f p) (table_high p some))
      ∙ sym (ap (indirect_of mid) (table_after p))

  slot_same : (l : ℕ) → l < inodes → slot_of inodes new l ≡ slot_of inodes old l
  slot_same l below =
      same_slot inodes old new l count_new ∙ ap (λ (b : Octets). part (l % 64 * 64) 64 b) (
      elsewhere (bitmap_blocks (length old) + inodes / 64 + l / 64) (omega arith) (omega (arith, room.whole, low))
      ∙ mid_reserved (bitmap_blocks (length old) + inodes / 64 + l / 64) (omega arith) (omega (arith, room.whole, below)))

  inode_other : (l : ℕ) → l < inodes → l ≢ k → inode_of new l ≡ inode_of old l
  inode_other l below other =
      same_inode old new l count_new ∙ put.other l other
      ∙ ap (λ (b : Octets). part (l % 64 * 64) 64 b) (
      unmarks.blocks (bitmap_blocks (length old) + l / 64) (omega (arith, drop.count))
      ∙ mid_reserved (bitmap_blocks (length old) + l / 64) (omega arith) (omega (arith, room.whole, below)))

  entry_is : entry inodes new k ≡ after
  entry_is = same_entry mid new (inode_of new k) inode (slot_of inodes new k) (slot_of inodes old k)
      (same_inode old new k count_new ∙ put.here)
      (slot_same k low) double_octets table_octets

  sized : size after ≡ 4096 * last
  sized = number_at_written 4 8 (4096 * last) inode1 (omega (arith, wide)) (omega (arith, counted, file.small))

  count_after : block_count after ≡ last
  count_after = omega (arith, sized)

  owned_after : owned after ≡ owned_to f last
  owned_after =
      ap (λ (m : ℕ). owned_to after m) count_after
      ∙ ap (λ (m : ℕ). cond (eqb m 0) [] (m ∷ []) ++
      (tables_to after (indirect_for last) ++ map (λ i. pointer after i) (range_with_len 0 last))) same_double
      ∙ ap (λ (l : List ℕ). double_blocks f ++ (l ++ map (λ i. pointer after i) (range_with_len 0 last)))
      (map_same_below (λ p. indirect_pointer after p) (λ p. indirect_pointer f p) 0 (indirect_for last) (λ p less. table_after p))
      ∙ ap (λ (l : List ℕ). double_blocks f ++ (tables_to f (indirect_for last) ++ l))
      (map_same_below (λ i. pointer after i) (λ i. pointer f i) 0 last (λ i less. pointer_after i))

  tables_after : indirect_for last ≡ indirect_count after
  tables_after = ap indirect_for (sym count_after)

  is_file : IsFile after
  is_file = record {
    kind_is = same_number 0 4 (inl (omega arith)) ∙ drop.head 0 4 (omega arith) ∙ file.kind_is;
    small = omega (arith, sized, counted, file.small);
    spare = same_number 60 4 (inr (omega arith)) ∙ drop.tail 60 4 (omega arith) ∙ file.spare;
    double_where = (
      (λ more none.
          let still : 1 < indirect_for last = subst (λ (t : ℕ). 1 < t) (sym tables_after) more in
          let same : double_pointer f ≡ double_pointer e = drop.double still in
          file.double_where.0 (omega (arith, still, counted)) (sym same ∙ sym same_double ∙ none)),
      (λ has. elim (cases_lt 1 (indirect_for last)) [
        | inl more ↦ subst (λ (t : ℕ). 1 < t) tables_after more
        | inr less ↦ absurd (has (same_double ∙ drop.no_double less))
      ]),
    );
    indirect_where = λ p. (
      (λ less none.
          let still : p < indirect_for last = subst (λ (t : ℕ). p < t) (sym tables_after) less in
          let same : indirect_pointer f p ≡ indirect_pointer e p = drop.table p still in
          (file.indirect_where p).0 (omega (arith, still, counted)) (sym same ∙ sym (table_after p) ∙ none)),
      (λ has. elim (cases_lt p (indirect_for last)) [
        | inl less ↦ subst (λ (t : ℕ). p < t) tables_after less
        | inr past ↦ absurd (has (table_after p ∙ drop.no_table p past))
      ]),
    );
    no_other_pointer = λ i high. pointer_after i ∙ elim (cases_eq i last) [
      | inl is ↦ ap (pointer f) is ∙ drop.here
      | inr other ↦ drop.other i other ∙ file.no_other_pointer i (omega (arith, high, other, count_after, counted))
    ];
    name_some = file.name_some;
    name_few = file.name_few;
    slot_is = file.slot_is;
  }

  -- ---- what it owned, and what it owns now

  abbrev kept : List ℕ
  kept = map (λ i. pointer f i) (range_with_len 0 last)

  abbrev gone : List ℕ
  gone = drop.doubles ++ (drop.tables ++ number ∷ [])

  pointers_were : map (λ i. pointer (entry inodes old k) i) (range_with_len 0 (last + 1)) ≡ kept ++ number ∷ []
  pointers_were =
      map-range_with_len_more (λ i. pointer (entry inodes old k) i) 0 last last (omega arith)
      ∙ ap (λ (l : List ℕ). l ++ pointer (entry inodes old k) last ∷ [])
      (map_same_below (λ i. pointer (entry inodes old k) i) (λ i. pointer f i) 0 last
      (λ i less. sym (drop.other i (omega (arith, less)))))
      ∙ ap (λ (m : ℕ). kept ++ m ∷ []) (sym number_is)

  owned_was : owned (entry inodes old k) ≡ (double_blocks f ++ drop.doubles) ++
      ((tables_to f (indirect_for last) ++ drop.tables) ++ (kept ++ number ∷ []))
  owned_was =
      ap (λ (m : ℕ). owned_to (entry inodes old k) m) (sym counted)
      ∙ ap (λ (l : List ℕ). l ++ (tables_to (entry inodes old k) (indirect_for (last + 1)) ++ map (λ i. pointer (entry inodes old k) i)
      (range_with_len 0 (last + 1)))) drop.doubles_are
      ∙ ap (λ (l : List ℕ). (double_blocks f ++ drop.doubles) ++
      (l ++ map (λ i. pointer (entry inodes old k) i) (range_with_len 0 (last + 1)))) drop.tables_are
      ∙ ap (λ (l : List ℕ). (double_blocks f ++ drop.doubles) ++ ((tables_to f (indirect_for last) ++ drop.tables) ++ l)) pointers_were

  parts : AreDistinct (owned_to f last) × ((x : ℕ) → Contains (owned_to f last) x → ¬ (Contains gone x))
  parts = three_split (double_blocks f) drop.doubles (tables_to f (indirect_for last)) drop.tables kept (number ∷ [])
      (subst AreDistinct owned_was (fs.distinct k low))

  was_cases : (b : ℕ) → Contains (owned (entry inodes old k)) b → Contains (owned_to f last) b ⊎ Contains gone b
  was_cases b has = three_cases (double_blocks f) drop.doubles (tables_to f (indirect_for last)) drop.tables kept (number ∷ []) b
      (subst (λ (o : List ℕ). Contains o b) owned_was has)

  owned_still : (b : ℕ) → Contains (owned_to f last) b → Contains (owned (entry inodes old k)) b
  owned_still b has = subst (λ (o : List ℕ). Contains o b) (sym owned_was)
      (three_were (double_blocks f) drop.doubles (tables_to f (indirect_for last)) drop.tables kept (number ∷ []) b has)

  gone_owned : (b : ℕ) → Contains gone b → Contains (owned (entry inodes old k)) b
  gone_owned b has = subst (λ (o : List ℕ). Contains o b) (sym owned_was)
      (three_new (double_blocks f) drop.doubles (tables_to f (indirect_for last)) drop.tables kept (number ∷ []) b has)

  -- ---- marks

  mark_new : (b : ℕ) → b < bitmap_bits (length old) → is_marked_used new b ≡ is_marked_used later b
  mark_new = marks_same later new (bitmap_blocks (length old)) (λ t few_t. put.blocks t (omega (arith, few_t)))

  small : (b : ℕ) → Contains (owned (entry inodes old k)) b → b < bitmap_bits (length old)
  small b has = omega (arith, (owned_within b has).1, room.count_few)

  -- the freed blocks that named blocks, among all that are freed
  naming_gone : (b : ℕ) → Contains (drop.doubles ++ drop.tables) b → Contains gone b
  naming_gone b has = elim (Contains-append_cases drop.doubles drop.tables b has) [
    | inl double ↦ Contains-append_left drop.doubles (drop.tables ++ number ∷ []) b double
    | inr table ↦ Contains-append_right drop.doubles (drop.tables ++ number ∷ []) b (Contains-append_left drop.tables (number ∷ []) b table)
  ]

  number_gone : Contains gone number
  number_gone = Contains-append_right drop.doubles (drop.tables ++ number ∷ []) number
      (Contains-append_right drop.tables (number ∷ []) number (0, omega arith, refl))

  later_free : (b : ℕ) → b < bitmap_bits (length old) → Contains (drop.doubles ++ drop.tables) b → is_marked_used later b ≡ false
  later_free b few naming = elim (cases_eq b number) [
    | inl is ↦ ap (λ (n : ℕ). is_marked_used later n) is ∙ unmarks.here
    | inr other ↦ unmarks.other b (omega (arith, few, drop.count)) other ∙ drop.gives_up.free b naming
  ]

  gone_free : (b : ℕ) → Contains gone b → is_marked_used new b ≡ false
  gone_free b has =
      let few = small b (gone_owned b has) in
      mark_new b few ∙ elim (cases_eq b number) [
        | inl is ↦ ap (λ (n : ℕ). is_marked_used later n) is ∙ unmarks.here
        | inr other ↦ elim (Contains-append_cases drop.doubles (drop.tables ++ number ∷ []) b has) [
          | inl double ↦ later_free b few (Contains-append_left drop.doubles drop.tables b double)
          | inr rest ↦ elim (Contains-append_cases drop.tables (number ∷ []) b rest) [
            | inl table ↦ later_free b few (Contains-append_right drop.doubles drop.tables b table)
            | inr one ↦ absurd (other (one_number number b one))
          ]
        ]
      ]

  same_marks : (b : ℕ) → b < bitmap_bits (length old) → (Contains gone b → ⊥) → is_marked_used new b ≡ is_marked_used old b
  same_marks b few lacks =
      mark_new b few
      ∙ unmarks.other b (omega (arith, few, drop.count)) (λ is. lacks (subst (λ (n : ℕ). Contains gone n) (sym is) number_gone))
      ∙ drop.gives_up.other b few (λ naming. lacks (naming_gone b naming))

  drops_takes_none : TakesNone old new
  drops_takes_none b few marked = elim (contained gone b) [
    | inl has ↦ absurd (false≢true (sym (gone_free b has) ∙ marked))
    | inr lacks ↦ sym (same_marks b few lacks) ∙ marked
  ]

  -- ---- the rule of blocks

  abbrev touched : ℕ → Type 0
  touched b = Contains (owned (entry inodes old k)) b

  puts : PutsEntry inodes k inode (slot_of inodes old k) touched old new
  puts = record {
    count = put.count ∙ unmarks.count ∙ drop.count;
    inode_is = same_inode old new k count_new ∙ put.here;
    slot_is = slot_same k low;
    inodes_other = inode_other;
    slots_other = λ l below other. slot_same l below;
    data_same = λ b high untouched. data_new b high ∙ mid_other b (omega (arith, high)) untouched;
  }

  owned_here : owned (entry inodes new k) ≡ owned_to f last
  owned_here = ap owned entry_is ∙ owned_after

  to_f : (b : ℕ) → Contains (owned (entry inodes new k)) b → Contains (owned_to f last) b
  to_f b = subst (λ (o : List ℕ). Contains o b) owned_here

  from_f : (b : ℕ) → Contains (owned_to f last) b → Contains (owned (entry inodes new k)) b
  from_f b = subst (λ (o : List ℕ). Contains o b) (sym owned_here)

  untouched_others : (l b : ℕ) → l < inodes → l ≢ k → Contains (owned (entry inodes old l)) b → ¬ (Contains (owned (entry inodes old k)) b)
  untouched_others l b below other has here = other (fs.one_owner l k b below low has here)

  file_now : IsFile (entry inodes new k)
  file_now = subst IsFile (sym entry_is) is_file

  owns : Reowns inodes k touched old new
  owns = record {
    here = inr file_now;
    untouched = untouched_others;
    distinct = subst AreDistinct (sym owned_here) parts.0;
    within = λ b has. owned_within b (owned_still b (to_f b has));
    source = λ b has. inl (owned_still b (to_f b has));
    taken = λ b has.
        let mine = to_f b has in
        same_marks b (small b (owned_still b mine)) (parts.1 b mine) ∙ owned_marked inodes k old room fs low b (owned_still b mine);
    left = λ b few had lacks. elim (was_cases b had) [ inl still ↦ absurd (lacks (from_f b still)) | inr goes ↦ gone_free b goes ];
    same = λ b few never lacks. same_marks b few (λ goes. never (gone_owned b goes));
  }

  rule : IsFileSystem inodes new
  rule = reowned_rule inodes k inode (slot_of inodes old k) touched old new low fs puts owns room.count_few
      (names_kept inodes k inode (slot_of inodes old k) touched old new low fs puts owns file (slot_same k low))

  -- ---- content

  whole : All (λ b. length b ≡ 4096) new
  whole = put.whole (unmarks.whole (drop.whole room.blocks_whole))

  same_block : (i : ℕ) → i < last → get_or new (pointer after i) [] ≡ get_or old (pointer (entry inodes old k) i) []
  same_block i less =
      let low_i : i < block_count e = omega (arith, less, counted) in
      let within = owned_within (pointer e i) (owns_pointer e i low_i) in
      let not_double : pointer e i ≢ double_pointer e = λ same. elim (cases_eq (double_pointer e) 0) [
        | inl none ↦ absurd (omega (arith, within.0, same, none))
        | inr some ↦ double_not_pointer e (block_count e) (fs.distinct k low) i some low_i (sym same)
      ] in
      let not_table : pointer e i ≢ indirect_pointer e ((last - 10) / 1024) =
      λ same. elim (cases_lt ((last - 10) / 1024) (indirect_count e)) [
        | inl inside ↦ table_not_pointer e (block_count e) (fs.distinct k low) ((last - 10) / 1024) i inside low_i (sym same)
        | inr past ↦ absurd (let none = named.none ((last - 10) / 1024) past in omega (arith, within.0, same, none))
      ] in
      ap (λ (n : ℕ). get_or new n []) (pointer_after i ∙ drop.other i (omega (arith, less)))
      ∙ data_new (pointer e i) within.0
      ∙ drop.blocks (pointer e i) (omega (arith, within.0)) not_double not_table

  content_is : take (4096 * last) (content_of old (entry inodes old k)) ≡ content_of new (entry inodes new k)
  content_is =
      ap (λ (n : ℕ). take n (content_of old e)) (sym sized)
      ∙ content_front old new e after room.blocks_whole (λ b has. (owned_within b has).1) whole
      (λ b has. omega (arith, (owned_within b (owned_still b (subst (λ (o : List ℕ). Contains o b) owned_after has))).1, puts.count))
      (omega (arith, sized, counted)) (λ i below. same_block i (omega (arith, below, count_after)))
      ∙ ap (λ (g : FileEntry). content_of new g) (sym entry_is)

  drops : ReplacesContent inodes k (take (4096 * last) (content_of old (entry inodes old k))) old new
  drops = replaces inodes k inode touched old new room fs low file puts untouched_others file_now
      (take (4096 * last) (content_of old (entry inodes old k))) whole rule content_is

  -- ---- the blocks that it touches

  double_new : double_of new k ≡ double_pointer f
  double_new = ap (λ (o : Octets). number_at 56 4 o) (same_inode old new k count_new ∙ put.here) ∙ same_double

  table_new : (p : ℕ) → table_of new k p ≡ indirect_pointer f p
  table_new p = ap (λ (g : FileEntry). indirect_pointer g p) entry_is ∙ table_after p

  drops_touches : TouchesInode k last (last + 1) old new
  drops_touches = record {
    count = count_new;
    same = λ b some other naming. elsewhere b some other
        ∙ drop.blocks b some (naming last (omega arith) (omega arith)).0 (naming last (omega arith) (omega arith)).1;
    double = elim (cases_lt 1 (indirect_for last)) [
      | inl more ↦ inl (double_new ∙ drop.double more)
      | inr less ↦ inr (double_new ∙ drop.no_double less)
    ];
    tables = λ p. elim (cases_lt p (indirect_for last)) [
      | inl less ↦ inl (table_new p ∙ drop.table p less)
      | inr past ↦ inr (table_new p ∙ drop.no_table p past)
    ];
  }

  pub drops_last : DropsLast inodes k last old new
  drops_last = record { shorter = drops; none_taken = drops_takes_none; touches = drops_touches }
