-- An inode loses its last pointer, and the blocks of pointers that only that pointer needed.
use Rattle.std.proofs.Common.{◌≡◌, ◌≢◌, inl, inr, ◌<◌, ◌≤◌, ℕ, ◌+◌, ◌-◌, ◌*◌, ◌/◌, ◌%◌, cond, eqb, Bool, false, List, []}
use Rattle.std.proofs.Common.{◌∷◌, ◌++◌, length, refl, sym, ◌∙◌, ap, subst, arith}
use Rattle.std.proofs.lemmas.List.{append-nil}
use Rattle.std.proofs.lemmas.List.Elements.{Contains-append_cases}
use Rattle.std.proofs.lemmas.List.FromFn.{map-range_with_len_more}
use Rattle.std.proofs.lemmas.Bool.{cases_eq, cases_lt, eq-eqb, ne_eqb}
use Rattle.byteorder.specs.Endian.{little_bytes}
use Rattle.disk.specs.Image.{overwritten}
use Rattle.disk.proofs.Images.{length-overwritten}
use Rattle.disk_numbers.proofs.Numbers.{number_at_apart, number_at_written}
use Rattle.model.specs.Stream.{Octets}
use Rattle.model.specs.Volume.{number_at}
use Rattle.model.specs.Files.{FileEntry, double_blocks, indirect_for, indirect_of, indirect_pointer, pointer, is_marked_used}
use Rattle.model.specs.Files.{bitmap_blocks}
use Rattle.model.specs.Files.{bitmap_bits, most_blocks}
use Rattle.model.proofs.Formats.{none_number, no_block}
use Rattle.fs_inodes.specs.Growing.{IsTaken, NamesBlocks, PutsIndirect, PutsPointer, inode_entry, tables_to}
use Rattle.fs_inodes.specs.Shrinking.{DropsPointer, DropsTable}
use Rattle.fs_layout.specs.Marks.{SetsMark}
use Rattle.fs_layout.proofs.Keeps.{indirect_same, marks_same}
use Rattle.fs_layout.proofs.Touching.{one_number}
use Rattle.fs_inodes.proofs.Putting.{in_block, in_double, in_inode}
use Rattle.fs_inodes.proofs.Tables.{entry_stays, map_same_below, table_taken}

-- ---- a block of pointers is dropped

module _ (p : ℕ) (inode : Octets) (old mid : List Octets) (few : length old ≤ most_blocks) (size : length inode ≡ 64)
    (names : NamesBlocks (p + 1) (inode_entry old inode) old)
    (first : SetsMark (indirect_pointer (inode_entry old inode) p) false old mid) where
  abbrev e : FileEntry
  e = inode_entry old inode

  mid_is : inode_entry mid inode ≡ inode_entry old inode
  mid_is = entry_stays (p + 1) inode old mid names (λ b taken. first.blocks b taken.some)

  taken : IsTaken old (indirect_pointer e p)
  taken = names.there p (omega arith)

  pub double_there : 0 < p → (bitmap_blocks (length mid) ≤ number_at 56 4 inode) × (number_at 56 4 inode < length mid)
  double_there some = let double = names.double (omega (arith, some)) in
      (omega (arith, double.some, first.count), omega (arith, double.there, first.count))

  pub double_apart : 0 < p → (q : ℕ) → q ≢ p → indirect_pointer (inode_entry mid inode) q ≢ number_at 56 4 inode
  double_apart some q other same = elim (cases_lt q (p + 1)) [
    | inl low ↦ names.apart q low (sym is ∙ same)
    | inr high ↦ absurd (let none = names.none q high in let there = (names.double (omega (arith, some))).some in
        omega (arith, none, there, is, same))
  ]
    where
      is : indirect_pointer (inode_entry mid inode) q ≡ indirect_pointer (inode_entry old inode) q
      is = ap (λ (e : FileEntry). indirect_pointer e q) mid_is

  -- the double-indirect block is not dropped
  module _ (inode' : Octets) (new : List Octets) (not_one : p ≢ 1) (puts : PutsIndirect p 0 inode inode' mid new) where
    mark_new : (b : ℕ) → b < bitmap_bits (length old) → is_marked_used new b ≡ is_marked_used mid b
    mark_new = marks_same mid new (bitmap_blocks (length old)) (λ t few_t. puts.marks t (omega (arith, few_t, first.count)))

    pub drops_table : DropsTable p inode inode' old new
    drops_table = record {
      count = puts.count ∙ first.count;
      whole = λ all. puts.whole (first.whole all);
      size = puts.size;
      head = puts.head;
      tail = λ a w behind. puts.tail a w (omega (arith, behind));
      here = puts.here;
      other = λ q other. puts.other q other ∙ ap (λ (e : FileEntry). indirect_pointer e q) mid_is;
      octets = λ q other. puts.octets q other ∙ ap (λ (e : FileEntry). e.pointers q) mid_is;
      doubles = [];
      double = inl (not_one, refl, puts.tail 56 4 (omega arith));
      gives_up = record {
        free = λ b has.
            let is = one_number (indirect_pointer e p) b has in
            mark_new b (omega (arith, is, taken.there, few)) ∙ ap (λ (n : ℕ). is_marked_used mid n) is ∙ first.here;
        other = λ b small lacks. mark_new b small ∙ first.other b small (λ is. lacks (0, omega arith, sym is));
      };
      blocks = λ b some apart. puts.blocks b apart ∙ first.blocks b some;
    }

  -- the double-indirect block names no other, and is dropped too
  module _ (then : List Octets) (one : p ≡ 1) (second : SetsMark (number_at 56 4 inode) false mid then) where
    abbrev without : Octets
    without = overwritten 56 (little_bytes 4 0) inode

    abbrev f : FileEntry
    f = inode_entry then without

    zeroed : number_at 56 4 without ≡ 0
    zeroed = number_at_written 56 4 0 inode (omega (arith, size)) (omega arith)

    before_is : (a w : ℕ) → a + w ≤ 56 → number_at a w without ≡ number_at a w inode
    before_is a w before = number_at_apart 56 (little_bytes 4 0) inode (omega (arith, size)) a w (inl before)

    none_named : (q : ℕ) → q ≢ 0 → indirect_pointer f q ≡ 0
    none_named q some = in_double then without q some ∙ ap (number_at (4 * (q - 1)) 4) (no_block then (number_at 56 4 without) zeroed)
        ∙ none_number (4 * (q - 1))

    same_number : (q : ℕ) → q ≢ p → indirect_pointer f q ≡ indirect_pointer e q
    same_number q other = elim (cases_eq q 0) [
      | inl none ↦
          ap (λ (t : Bool). cond t (number_at 52 4 without) (number_at (4 * (q - 1)) 4 (indirect_of then (number_at 56 4 without))))
          (eq-eqb q 0 none)
          ∙ before_is 52 4 (omega arith)
          ∙ sym (ap (λ (t : Bool). cond t (number_at 52 4 inode) (number_at (4 * (q - 1)) 4 (indirect_of old (number_at 56 4 inode))))
          (eq-eqb q 0 none))
      | inr some ↦ none_named q some ∙ sym (names.none q (omega (arith, some, other, one)))
    ]

    pub drops_double : DropsTable p inode (overwritten 56 (little_bytes 4 0) inode) old then
    drops_double = record {
      count = second.count ∙ first.count;
      whole = λ all. second.whole (first.whole all);
      size = length-overwritten 56 (little_bytes 4 0) inode (omega (arith, size));
      head = λ a w before. before_is a w (omega (arith, before));
      tail = λ a w behind. number_at_apart 56 (little_bytes 4 0) inode (omega (arith, size)) a w (inr (omega (arith, behind)));
      here = none_named p (omega (arith, one));
      other = same_number;
      octets = λ q other.
          ap (indirect_of then) (same_number q other)
          ∙ indirect_same old then (indirect_pointer e q) (λ named. let some = (table_taken (p + 1) e old names q named).some in
          second.blocks (indirect_pointer e q) (omega (arith, some, first.count)) ∙ first.blocks (indirect_pointer e q) some);
      doubles = number_at 56 4 inode ∷ [];
      double = inr (one, refl, zeroed);
      gives_up = record {
        free = λ b has. elim (Contains-append_cases (number_at 56 4 inode ∷ []) (indirect_pointer e p ∷ []) b has) [
          | inl double ↦ ap (λ (n : ℕ). is_marked_used then n) (one_number (number_at 56 4 inode) b double) ∙ second.here
          | inr table ↦
              let is = one_number (indirect_pointer e p) b table in
              second.other b (omega (arith, is, taken.there, few, first.count)) (λ same. names.apart p (omega arith) (sym is ∙ same))
              ∙ ap (λ (n : ℕ). is_marked_used mid n) is ∙ first.here
        ];
        other = λ b small lacks.
            second.other b (omega (arith, small, first.count)) (λ is. lacks (0, omega arith, sym is))
            ∙ first.other b small (λ is. lacks (1, omega arith, sym is));
      };
      blocks = λ b some apart. second.blocks b (omega (arith, some, first.count)) ∙ first.blocks b some;
    }

-- ---- the last pointer is dropped

module _ (i : ℕ) (inode inode' : Octets) (old new : List Octets)
    (names : NamesBlocks (indirect_for (i + 1)) (inode_entry old inode) old) where
  abbrev was : FileEntry
  was = inode_entry old inode

  abbrev now : FileEntry
  now = inode_entry new inode'

  -- its block of pointers has others
  module _ (within : i % 1024 ≢ 10) (puts : PutsPointer i 0 inode inode' old new) where
    same_count : indirect_for (i + 1) ≡ indirect_for i
    same_count = omega (arith, within)

    same_double : number_at 56 4 inode' ≡ number_at 56 4 inode
    same_double = puts.tail 56 4 (omega arith)

    pub drops_within : DropsPointer i inode inode' old new
    drops_within = record {
      count = puts.count;
      whole = puts.whole;
      size = puts.size;
      here = puts.here;
      other = puts.other;
      head = puts.head;
      tail = λ a w behind. puts.tail a w (omega (arith, behind));
      double = λ more. same_double;
      no_double = λ less. same_double ∙ names.no_double (omega (arith, less, same_count));
      table = λ p less. puts.indirect p;
      no_table = λ p high. puts.indirect p ∙ names.none p (omega (arith, high, same_count));
      doubles = [];
      doubles_are = ap (λ (m : ℕ). cond (eqb m 0) [] (m ∷ [])) (sym same_double) ∙ sym (append-nil (double_blocks now));
      tables = [];
      tables_are =
          ap (tables_to was) same_count
          ∙ map_same_below (λ p. indirect_pointer was p) (λ p. indirect_pointer now p) 0 (indirect_for i) (λ p less. sym (puts.indirect p))
          ∙ sym (append-nil (tables_to now (indirect_for i)));
      gives_up = record {
        free = λ b has. absurd (omega (arith, has.1));
        other = λ b small lacks. marks_same old new (bitmap_blocks (length old)) (λ t few_t. puts.marks t few_t) b small;
      };
      blocks = λ b some apart second. puts.blocks b second;
    }

  -- its block of pointers is dropped too
  module _ (p : ℕ) (is : i ≡ 1024 * p + 10) (last : (j : ℕ) → i < j → pointer (inode_entry old inode) j ≡ 0)
      (drop : DropsTable p inode inode' old new) where
    count_is : indirect_for i ≡ p
    count_is = omega (arith, is)

    count_was : indirect_for (i + 1) ≡ p + 1
    count_was = omega (arith, is)

    named : NamesBlocks (p + 1) was old
    named = subst (λ (n : ℕ). NamesBlocks n was old) count_was names

    -- a pointer that was in it
    zero_there : (j : ℕ) → 10 ≤ j → (j - 10) / 1024 ≡ p → pointer now j ≡ 0
    zero_there j high there =
        in_block new inode' j high
        ∙ ap (λ (q : ℕ). number_at (4 * ((j - 10) % 1024)) 4 (indirect_of new (indirect_pointer now q))) there
        ∙ ap (number_at (4 * ((j - 10) % 1024)) 4) (no_block new (indirect_pointer now p) drop.here)
        ∙ none_number (4 * ((j - 10) % 1024))

    same_pointer : (j : ℕ) → j ≢ i → pointer now j ≡ pointer was j
    same_pointer j other = elim (cases_lt j 10) [
      | inl low ↦ in_inode new inode' j low ∙ drop.head (12 + 4 * j) 4 (omega (arith, low)) ∙ sym (in_inode old inode j low)
      | inr high ↦ elim (cases_eq ((j - 10) / 1024) p) [
        | inl there ↦ zero_there j high there ∙ sym (last j (omega (arith, is, high, there, other)))
        | inr elsewhere ↦ in_block new inode' j high ∙ ap (number_at (4 * ((j - 10) % 1024)) 4) (drop.octets ((j - 10) / 1024) elsewhere)
            ∙ sym (in_block old inode j high)
      ]
    ]

    doubles_were : double_blocks was ≡ double_blocks now ++ drop.doubles
    doubles_were = elim drop.double [
      | inl stays ↦
          ap (λ (m : ℕ). cond (eqb m 0) [] (m ∷ [])) (sym stays.2)
          ∙ sym (append-nil (double_blocks now))
          ∙ ap (λ (l : List ℕ). double_blocks now ++ l) (sym stays.1)
      | inr goes ↦
          let none : double_blocks now ≡ [] =
          ap (λ (t : Bool). cond t [] (number_at 56 4 inode' ∷ [])) (eq-eqb (number_at 56 4 inode') 0 goes.2) in
          let some = (named.double (omega (arith, goes.0))).some in
          ap (λ (t : Bool). cond t [] (number_at 56 4 inode ∷ []))
          (ne_eqb (number_at 56 4 inode) 0 (λ zero_is. absurd (omega (arith, zero_is, some))))
          ∙ sym goes.1
          ∙ ap (λ (l : List ℕ). l ++ drop.doubles) (sym none)
    ]

    pub drops_first : DropsPointer i inode inode' old new
    drops_first = record {
      count = drop.count;
      whole = drop.whole;
      size = drop.size;
      here = zero_there i (omega (arith, is)) (omega (arith, is));
      other = same_pointer;
      head = λ a w before. drop.head a w (omega (arith, before));
      tail = drop.tail;
      double = λ more. elim drop.double [ inl stays ↦ stays.2 | inr goes ↦ absurd (omega (arith, more, goes.0, count_is)) ];
      no_double = λ less. elim drop.double [
        | inl stays ↦ stays.2 ∙ named.no_double (omega (arith, less, count_is, stays.0))
        | inr goes ↦ goes.2
      ];
      table = λ q less. drop.other q (omega (arith, less, count_is));
      no_table = λ q high. elim (cases_eq q p) [
        | inl here ↦ ap (indirect_pointer now) here ∙ drop.here
        | inr other ↦ drop.other q other ∙ named.none q (omega (arith, high, count_is, other))
      ];
      doubles = drop.doubles;
      doubles_are = doubles_were;
      tables = indirect_pointer was p ∷ [];
      tables_are =
          ap (tables_to was) count_was
          ∙ map-range_with_len_more (λ q. indirect_pointer was q) 0 p p (omega arith)
          ∙ ap (λ (l : List ℕ). l ++ indirect_pointer was p ∷ [])
          (map_same_below (λ q. indirect_pointer was q) (λ q. indirect_pointer now q) 0 p
          (λ q less. sym (drop.other q (omega (arith, less)))))
          ∙ ap (λ (n : ℕ). tables_to now n ++ indirect_pointer was p ∷ []) (sym count_is);
      gives_up = drop.gives_up;
      blocks = λ b some apart second. drop.blocks b some apart;
    }
