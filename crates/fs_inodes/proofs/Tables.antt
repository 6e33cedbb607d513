-- The blocks that name blocks, while an inode gets more of them.
use Rattle.std.proofs.Common.{◌≡◌, ◌≢◌, inl, inr, ◌<◌, ◌≤◌, ℕ, zero, suc, ◌+◌, ◌-◌, ◌*◌, ◌/◌, ◌%◌, cond, eqb, ltb, true, Bool}
use Rattle.std.proofs.Common.{List, [], ◌∷◌, ◌++◌, length, get_or, map, replicate, refl, sym, ◌∙◌, ap, subst, arith}
use Rattle.std.proofs.Common.{length-append}
use Rattle.std.specs.List.{Contains, range_with_len}
use Rattle.std.proofs.lemmas.List.{append-nil}
use Rattle.std.proofs.lemmas.List.Elements.{All-replicate}
use Rattle.std.proofs.lemmas.List.FromFn.{map-range_with_len_more}
use Rattle.std.proofs.lemmas.Bool.{cases_eq, cases_lt, eq-eqb, ne_eqb, lt-ltb, le-ltb}
use Rattle.byteorder.specs.Endian.{little_bytes}
use Rattle.disk.specs.Image.{overwritten}
use Rattle.disk.proofs.Images.{length-overwritten}
use Rattle.disk_numbers.proofs.Numbers.{number_at_apart, number_at_written}
use Rattle.model.specs.Stream.{Octets}
use Rattle.model.specs.Volume.{number_at}
use Rattle.model.specs.Files.{FileEntry, double_blocks, double_pointer, indirect_for, indirect_of, indirect_pointer, pointer}
use Rattle.model.specs.Files.{bitmap_bits, bitmap_blocks, most_blocks}
use Rattle.model.specs.Files.{is_marked_used}
use Rattle.model.specs.Files.{free_blocks}
use Rattle.model.proofs.Owning.{zero_number}
use Rattle.model.proofs.Formats.{none_number, no_block}
use Rattle.fs_inodes.specs.Growing.{AddsDouble, AddsTable, IsApart, IsTaken, NamesBlocks, PutsIndirect, TakesBlocks, TakesZeros}
use Rattle.fs_inodes.specs.Growing.{inode_entry, tables_to, with_double}
use Rattle.fs_layout.proofs.Keeps.{indirect_same, marks_same, same_entry}
use Rattle.fs_inodes.proofs.Putting.{in_inode, in_block}
use Rattle.fs_inodes.proofs.Taking.{fresh_apart, fresh_taken, taken_still, takes_both, takes_none, takes_then}

pub map_same_below : (f g : ℕ → ℕ) (a n : ℕ) → ((i : ℕ) → i < a + n → f i ≡ g i) → map f (range_with_len a n) ≡ map g (range_with_len a n)
map_same_below f g a zero same = refl
map_same_below f g a (suc n) same =
    ap (λ (y : ℕ). y ∷ map f (range_with_len (a + 1) n)) (same a (omega arith))
    ∙ ap (λ (l : List ℕ). g a ∷ l) (map_same_below f g (a + 1) n (λ i low. same i (omega arith)))

zeros_number : (at : ℕ) → number_at at 4 (replicate 4096 0) ≡ 0
zeros_number at = zero_number at 4 (replicate 4096 0) (All-replicate (λ (o : ℕ). o ≡ 0) 4096 0 refl)

block_of : (blocks : List Octets) (n : ℕ) → n ≢ 0 → indirect_of blocks n ≡ get_or blocks n []
block_of blocks n some = ap (λ (t : Bool). cond t [] (get_or blocks n [])) (ne_eqb n 0 some)

-- ---- what is named

module _ (tables : ℕ) (e : FileEntry) (blocks : List Octets) (names : NamesBlocks tables e blocks) where
  pub double_taken : double_pointer e ≢ 0 → IsTaken blocks (double_pointer e)
  double_taken some = elim (cases_lt 1 tables) [ inl more ↦ names.double more | inr less ↦ absurd (some (names.no_double less)) ]

  pub table_taken : (p : ℕ) → indirect_pointer e p ≢ 0 → IsTaken blocks (indirect_pointer e p)
  table_taken p some = elim (cases_lt p tables) [ inl low ↦ names.there p low | inr high ↦ absurd (some (names.none p high)) ]

  -- another entry that names the same
  pub names_same : (f : FileEntry) (new : List Octets) → ((p : ℕ) → indirect_pointer f p ≡ indirect_pointer e p)
      → double_pointer f ≡ double_pointer e → ((b : ℕ) → IsTaken blocks b → IsTaken new b) → NamesBlocks tables f new
  names_same f new same same_double keep = record {
    there = λ p low. subst (IsTaken new) (sym (same p)) (keep (indirect_pointer e p) (names.there p low));
    none = λ p high. same p ∙ names.none p high;
    differ = λ p q low_p low_q is. names.differ p q low_p low_q (sym (same p) ∙ is ∙ same q);
    double = λ more. subst (IsTaken new) (sym same_double) (keep (double_pointer e) (names.double more));
    no_double = λ less. same_double ∙ names.no_double less;
    apart = λ p low is. names.apart p low (sym (same p) ∙ is ∙ same_double);
  }

  pub is_apart : (p : ℕ) → p < tables → IsApart p e
  is_apart p low = record {
    double = λ is. names.apart p low (sym is);
    others = λ q other is. elim (cases_lt q tables) [
      | inl inside ↦ other (names.differ q p inside low is)
      | inr past ↦ absurd (let none = names.none q past in let there = (names.there p low).some in omega (arith, none, there, is))
    ];
  }

pub entry_stays : (tables : ℕ) (inode : Octets) (old mid : List Octets) → NamesBlocks tables (inode_entry old inode) old
    → ((b : ℕ) → IsTaken old b → get_or mid b [] ≡ get_or old b []) → inode_entry mid inode ≡ inode_entry old inode
entry_stays tables inode old mid names same =
    same_entry old mid inode inode [] [] refl refl
    (indirect_same old mid (number_at 56 4 inode)
    (λ some. same (number_at 56 4 inode) (double_taken tables (inode_entry old inode) old names some)))
    (λ p. indirect_same old mid (indirect_pointer (inode_entry old inode) p)
    (λ some. same (indirect_pointer (inode_entry old inode) p) (table_taken tables (inode_entry old inode) old names p some)))

pub names_stay : (tables : ℕ) (inode : Octets) (old mid : List Octets) → NamesBlocks tables (inode_entry old inode) old
    → ((b : ℕ) → IsTaken old b → get_or mid b [] ≡ get_or old b []) → ((b : ℕ) → IsTaken old b → IsTaken mid b)
    → NamesBlocks tables (inode_entry mid inode) mid
names_stay tables inode old mid names same keep =
    names_same tables (inode_entry old inode) old names (inode_entry mid inode) mid
    (λ p. ap (λ (e : FileEntry). indirect_pointer e p) (entry_stays tables inode old mid names same)) refl keep

-- a block that the inode does not name gets zeros
module _ (tables number : ℕ) (inode : Octets) (old mid : List Octets) (few : length old ≤ most_blocks)
    (names : NamesBlocks tables (inode_entry old inode) old) (zeros : TakesZeros number old mid) where
  zeros_same : (b : ℕ) → IsTaken old b → get_or mid b [] ≡ get_or old b []
  zeros_same b taken = zeros.blocks b taken.some (fresh_apart (number ∷ []) old mid zeros.takes number b (0, omega arith, refl) taken)

  pub zeros_entry : inode_entry mid inode ≡ inode_entry old inode
  zeros_entry = entry_stays tables inode old mid names zeros_same

  pub zeros_names : NamesBlocks tables (inode_entry mid inode) mid
  zeros_names = names_stay tables inode old mid names zeros_same (taken_still (number ∷ []) old mid few zeros.count zeros.takes)

-- ---- the double-indirect block

pub adds_no_double : (p : ℕ) (inode : Octets) (old : List Octets) → p ≢ 1 → AddsDouble p inode inode old old
adds_no_double p inode old other = record {
  count = refl;
  whole = λ all. all;
  size = refl;
  same = λ q. refl;
  octets = λ q. refl;
  head = λ a w before. refl;
  tail = λ a w behind. refl;
  doubles = [];
  double = inl (other, refl, refl);
  takes = takes_none old;
  blocks = λ b some apart. refl;
}

module _ (number : ℕ) (inode : Octets) (old mid : List Octets) (size : length inode ≡ 64) (few : length old ≤ most_blocks)
    (reserved : (b : ℕ) → b < bitmap_blocks (length old) → is_marked_used old b ≡ true)
    (names : NamesBlocks 1 (inode_entry old inode) old) (zeros : TakesZeros number old mid) where
  abbrev with_number : Octets
  with_number = overwritten 56 (little_bytes 4 number) inode

  taken : IsTaken mid number
  taken = fresh_taken number old mid zeros.count zeros.takes reserved

  some : number ≢ 0
  some none = absurd (omega (arith, none, taken.some))

  number_is : number_at 56 4 with_number ≡ number
  number_is = number_at_written 56 4 number inode (omega (arith, size)) (omega (arith, few, zeros.count, taken.there))

  before_is : (a w : ℕ) → a + w ≤ 56 → number_at a w with_number ≡ number_at a w inode
  before_is a w before = number_at_apart 56 (little_bytes 4 number) inode (omega (arith, size)) a w (inl before)

  octets_now : indirect_of mid (number_at 56 4 with_number) ≡ replicate 4096 0
  octets_now = ap (indirect_of mid) number_is ∙ block_of mid number some ∙ zeros.zeros

  octets_were : indirect_of old (number_at 56 4 inode) ≡ []
  octets_were = no_block old (number_at 56 4 inode) (names.no_double (omega arith))

  same_numbers : (q : ℕ) → indirect_pointer (inode_entry mid with_number) q ≡ indirect_pointer (inode_entry old inode) q
  same_numbers q =
      ap (λ (m : ℕ). cond (eqb q 0) m (number_at (4 * (q - 1)) 4 (indirect_of mid (number_at 56 4 with_number))))
      (before_is 52 4 (omega arith))
      ∙ ap (λ (m : ℕ). cond (eqb q 0) (number_at 52 4 inode) m)
      (ap (number_at (4 * (q - 1)) 4) octets_now ∙ zeros_number (4 * (q - 1))
      ∙ sym (ap (number_at (4 * (q - 1)) 4) octets_were ∙ none_number (4 * (q - 1))))

  pub adds_double : AddsDouble 1 inode (overwritten 56 (little_bytes 4 number) inode) old mid
  adds_double = record {
    count = zeros.count;
    whole = zeros.whole;
    size = length-overwritten 56 (little_bytes 4 number) inode (omega (arith, size));
    same = same_numbers;
    octets = λ q.
        ap (indirect_of mid) (same_numbers q)
        ∙ indirect_same old mid (indirect_pointer (inode_entry old inode) q) (λ named.
        zeros_same 1 number inode old mid few names zeros (indirect_pointer (inode_entry old inode) q)
        (table_taken 1 (inode_entry old inode) old names q named));
    head = before_is;
    tail = λ a w behind. number_at_apart 56 (little_bytes 4 number) inode (omega (arith, size)) a w (inr (omega (arith, behind)));
    doubles = number ∷ [];
    double = inr (refl, ap (λ (m : ℕ). m ∷ []) (sym number_is), subst (IsTaken mid) (sym number_is) taken);
    takes = zeros.takes;
    blocks = λ b some_b other. zeros.blocks b some_b (λ same. other (same ∙ sym number_is));
  }

-- ---- a block of pointers

module _ (i : ℕ) (inode : Octets) (old : List Octets) (other : i % 1024 ≢ 10)
    (names : NamesBlocks (indirect_for i) (inode_entry old inode) old) where
  same_count : indirect_for i ≡ indirect_for (i + 1)
  same_count = omega (arith, other)

  pub adds_no_table : AddsTable i inode inode old old
  adds_no_table = record {
    count = refl;
    whole = λ all. all;
    size = refl;
    same = λ j. refl;
    head = λ a w before. refl;
    tail = λ a w behind. refl;
    names = subst (λ (n : ℕ). NamesBlocks n (inode_entry old inode) old) same_count names;
    double_stays = inr refl;
    tables_stay = λ q. inr refl;
    doubles = [];
    doubles_are = sym (append-nil (double_blocks (inode_entry old inode)));
    tables = [];
    tables_are = ap (tables_to (inode_entry old inode)) (sym same_count)
        ∙ sym (append-nil (tables_to (inode_entry old inode) (indirect_for i)));
    takes = takes_none old;
    fewer = ap (λ (n : ℕ). free_blocks old + with_double n) (sym same_count);
    blocks = λ b some apart second. refl;
  }

module _ (i p table : ℕ) (inode inode1 : Octets) (old mid then : List Octets) (few : length old ≤ most_blocks)
    (reserved : (b : ℕ) → b < bitmap_blocks (length old) → is_marked_used old b ≡ true) (is : i ≡ 1024 * p + 10)
    (named : NamesBlocks (indirect_for i) (inode_entry old inode) old)
    (zeros : TakesZeros table old mid) (double : AddsDouble p inode inode1 mid then) where
  count_is : indirect_for i ≡ p
  count_is = omega (arith, is)

  count_then : indirect_for (i + 1) ≡ p + 1
  count_then = omega (arith, is)

  names : NamesBlocks p (inode_entry old inode) old
  names = subst (λ (n : ℕ). NamesBlocks n (inode_entry old inode) old) count_is named

  few_mid : length mid ≤ most_blocks
  few_mid = omega (arith, few, zeros.count)

  mid_is : inode_entry mid inode ≡ inode_entry old inode
  mid_is = zeros_entry p table inode old mid few names zeros

  table_mid : IsTaken mid table
  table_mid = fresh_taken table old mid zeros.count zeros.takes reserved

  to_mid : (b : ℕ) → IsTaken old b → IsTaken mid b
  to_mid = taken_still (table ∷ []) old mid few zeros.count zeros.takes

  to_then : (b : ℕ) → IsTaken mid b → IsTaken then b
  to_then = taken_still double.doubles mid then few_mid double.count double.takes

  then_number : (q : ℕ) → indirect_pointer (inode_entry then inode1) q ≡ indirect_pointer (inode_entry old inode) q
  then_number q = double.same q ∙ ap (λ (e : FileEntry). indirect_pointer e q) mid_is

  -- a block taken before is not the double-indirect block, if that is new
  not_double : (b : ℕ) → IsTaken mid b → p ≡ 1 → double.doubles ≡ number_at 56 4 inode1 ∷ [] → b ≢ number_at 56 4 inode1
  not_double b taken one are =
      fresh_apart double.doubles mid then double.takes (number_at 56 4 inode1) b
      (subst (λ (l : List ℕ). Contains l (number_at 56 4 inode1)) (sym are) (0, omega arith, refl)) taken

  table_apart : table ≢ number_at 56 4 inode1
  table_apart = elim double.double [
    | inl stays ↦ elim (cases_lt 1 p) [
      | inl more ↦ λ same. fresh_apart (table ∷ []) old mid zeros.takes table (number_at 56 4 inode) (0, omega arith, refl)
          (names.double more) (sym stays.2 ∙ sym same)
      | inr less ↦ λ same. absurd (let none = names.no_double less in omega (arith, none, table_mid.some, same, stays.2))
    ]
    | inr comes ↦ not_double table table_mid comes.0 comes.1
  ]

  tables_apart : (q : ℕ) → q < p → indirect_pointer (inode_entry old inode) q ≢ number_at 56 4 inode1
  tables_apart q low = elim double.double [
    | inl stays ↦ λ same. names.apart q low (same ∙ stays.2)
    | inr comes ↦ not_double (indirect_pointer (inode_entry old inode) q)
        (to_mid (indirect_pointer (inode_entry old inode) q) (names.there q low)) comes.0 comes.1
  ]

  -- what the next call requires
  pub double_there : 0 < p → (bitmap_blocks (length then) ≤ number_at 56 4 inode1) × (number_at 56 4 inode1 < length then)
  double_there some = elim double.double [
    | inl stays ↦
        let taken = subst (IsTaken then) (sym stays.2)
        (to_then (number_at 56 4 inode) (to_mid (number_at 56 4 inode) (names.double (omega (arith, some, stays.0))))) in
        (taken.some, taken.there)
    | inr comes ↦ (comes.2.some, comes.2.there)
  ]

  pub double_apart : 0 < p → (q : ℕ) → q ≢ p → indirect_pointer (inode_entry then inode1) q ≢ number_at 56 4 inode1
  double_apart some q other same = elim (cases_lt q p) [
    | inl low ↦ tables_apart q low (sym (then_number q) ∙ same)
    | inr high ↦ absurd (let none = names.none q high in let is = then_number q in let there = (double_there some).0 in
        omega (arith, none, is, there, same))
  ]

  module _ (inode2 : Octets) (new : List Octets) (puts : PutsIndirect p table inode1 inode2 then new) where
    abbrev e : FileEntry
    e = inode_entry old inode

    abbrev f : FileEntry
    f = inode_entry new inode2

    double_is : number_at 56 4 inode2 ≡ number_at 56 4 inode1
    double_is = puts.tail 56 4 (omega arith)

    same_number : (q : ℕ) → q ≢ p → indirect_pointer f q ≡ indirect_pointer e q
    same_number q other = puts.other q other ∙ then_number q

    same_octets : (q : ℕ) → q ≢ p → f.pointers q ≡ e.pointers q
    same_octets q other = puts.octets q other ∙ double.octets q ∙ ap (λ (e : FileEntry). e.pointers q) mid_is

    table_octets : indirect_of new (indirect_pointer f p) ≡ replicate 4096 0
    table_octets =
        ap (indirect_of new) puts.here
        ∙ block_of new table (λ none. absurd (omega (arith, none, table_mid.some)))
        ∙ puts.blocks table table_apart ∙ double.blocks table table_mid.some table_apart ∙ zeros.zeros

    was_octets : indirect_of old (indirect_pointer e p) ≡ []
    was_octets = no_block old (indirect_pointer e p) (names.none p (omega arith))

    same_pointer : (j : ℕ) → pointer f j ≡ pointer e j
    same_pointer j = elim (cases_lt j 10) [
      | inl low ↦ in_inode new inode2 j low ∙ puts.head (12 + 4 * j) 4 (omega (arith, low))
          ∙ double.head (12 + 4 * j) 4 (omega (arith, low)) ∙ sym (in_inode old inode j low)
      | inr high ↦
          in_block new inode2 j high
          ∙ elim (cases_eq ((j - 10) / 1024) p) [
            | inl here ↦
                ap (λ (q : ℕ). number_at (4 * ((j - 10) % 1024)) 4 (indirect_of new (indirect_pointer f q))) here
                ∙ ap (number_at (4 * ((j - 10) % 1024)) 4) table_octets
                ∙ zeros_number (4 * ((j - 10) % 1024))
                ∙ sym (
                ap (λ (q : ℕ). number_at (4 * ((j - 10) % 1024)) 4 (indirect_of old (indirect_pointer e q))) here
                ∙ ap (number_at (4 * ((j - 10) % 1024)) 4) was_octets
                ∙ none_number (4 * ((j - 10) % 1024)))
            | inr other ↦ ap (number_at (4 * ((j - 10) % 1024)) 4) (same_octets ((j - 10) / 1024) other)
          ]
          ∙ sym (in_block old inode j high)
    ]

    -- marks
    mark_new : (b : ℕ) → b < bitmap_bits (length old) → is_marked_used new b ≡ is_marked_used then b
    mark_new = marks_same then new (bitmap_blocks (length old)) (λ t few_t. puts.marks t (omega (arith, few_t, double.count, zeros.count)))

    all_taken : TakesBlocks (double.doubles ++ table ∷ []) old new
    all_taken =
        takes_then (double.doubles ++ table ∷ []) old then new few (double.count ∙ zeros.count) puts.count mark_new
        (takes_both (table ∷ []) double.doubles old mid then few zeros.count double.count zeros.takes double.takes)

    count_new : length new ≡ length old
    count_new = puts.count ∙ double.count ∙ zeros.count

    from_then : (b : ℕ) → IsTaken then b → IsTaken new b
    from_then b taken = record {
      some = omega (arith, taken.some, puts.count);
      there = omega (arith, taken.there, puts.count);
      marked = mark_new b (omega (arith, taken.there, few, zeros.count, double.count)) ∙ taken.marked;
    }

    keep : (b : ℕ) → IsTaken old b → IsTaken new b
    keep b taken = from_then b (to_then b (to_mid b taken))

    -- a block of pointers that was there is not the new one
    was_apart : (q : ℕ) → q < p → indirect_pointer e q ≢ table
    was_apart q low = fresh_apart (table ∷ []) old mid zeros.takes table (indirect_pointer e q) (0, omega arith, refl) (names.there q low)

    below : (q : ℕ) → q < p + 1 → q ≢ p → q < p
    below q low other = omega (arith, low, other)

    names_new : NamesBlocks (p + 1) f new
    names_new = record {
      there = λ q low. elim (cases_eq q p) [
        | inl here ↦ subst (IsTaken new) (sym (ap (indirect_pointer f) here ∙ puts.here)) (from_then table (to_then table table_mid))
        | inr other ↦ subst (IsTaken new) (sym (same_number q other)) (keep (indirect_pointer e q) (names.there q (below q low other)))
      ];
      none = λ q high. same_number q (λ here. absurd (omega (arith, here, high))) ∙ names.none q (omega (arith, high));
      differ = λ q r low_q low_r same. elim (cases_eq q p) [
        | inl q_is ↦ elim (cases_eq r p) [
          | inl r_is ↦ q_is ∙ sym r_is
          | inr r_other ↦ absurd (was_apart r (below r low_r r_other) (sym (same_number r r_other) ∙ sym same ∙ ap (indirect_pointer f) q_is
              ∙ puts.here))
        ]
        | inr q_other ↦ elim (cases_eq r p) [
          | inl r_is ↦ absurd (was_apart q (below q low_q q_other) (sym (same_number q q_other) ∙ same ∙ ap (indirect_pointer f) r_is
              ∙ puts.here))
          | inr r_other ↦ names.differ q r (below q low_q q_other) (below r low_r r_other) (sym (same_number q q_other) ∙ same
              ∙ same_number r r_other)
        ]
      ];
      double = λ more. subst (IsTaken new) (sym double_is) (elim double.double [
        | inl stays ↦ subst (IsTaken new) (sym stays.2) (keep (number_at 56 4 inode) (names.double (omega (arith, more, stays.0))))
        | inr comes ↦ from_then (number_at 56 4 inode1) comes.2
      ]);
      no_double = λ less. double_is ∙ elim double.double [
        | inl stays ↦ stays.2 ∙ names.no_double (omega (arith, less))
        | inr comes ↦ absurd (omega (arith, less, comes.0))
      ];
      apart = λ q low same. elim (cases_eq q p) [
        | inl here ↦ table_apart (sym (ap (indirect_pointer f) here ∙ puts.here) ∙ same ∙ double_is)
        | inr other ↦ tables_apart q (below q low other) (sym (same_number q other) ∙ same ∙ double_is)
      ];
    }

    doubles_new : double_blocks f ≡ double_blocks e ++ double.doubles
    doubles_new = elim double.double [
      | inl stays ↦
          ap (λ (m : ℕ). cond (eqb m 0) [] (m ∷ [])) (double_is ∙ stays.2)
          ∙ sym (append-nil (double_blocks e))
          ∙ ap (λ (l : List ℕ). double_blocks e ++ l) (sym stays.1)
      | inr comes ↦
          let was : double_blocks e ≡ [] =
          ap (λ (t : Bool). cond t [] (number_at 56 4 inode ∷ []))
          (eq-eqb (number_at 56 4 inode) 0 (names.no_double (omega (arith, comes.0)))) in
          ap (λ (m : ℕ). cond (eqb m 0) [] (m ∷ [])) double_is
          ∙ ap (λ (t : Bool). cond t [] (number_at 56 4 inode1 ∷ []))
          (ne_eqb (number_at 56 4 inode1) 0 (λ none. absurd (omega (arith, none, comes.2.some))))
          ∙ sym comes.1
          ∙ ap (λ (l : List ℕ). l ++ double.doubles) (sym was)
    ]

    tables_new : tables_to f (p + 1) ≡ tables_to e p ++ table ∷ []
    tables_new =
        map-range_with_len_more (λ q. indirect_pointer f q) 0 p p (omega arith)
        ∙ ap (λ (l : List ℕ). l ++ indirect_pointer f p ∷ [])
        (map_same_below (λ q. indirect_pointer f q) (λ q. indirect_pointer e q) 0 p
        (λ q low. same_number q (λ here. absurd (omega (arith, here, low)))))
        ∙ ap (λ (m : ℕ). tables_to e p ++ m ∷ []) puts.here

    fewer_new : free_blocks new + with_double (p + 1) ≡ free_blocks old + with_double p
    fewer_new =
        let less = all_taken.fewer in
        let long = length-append double.doubles (table ∷ []) in
        elim double.double [
          | inl stays ↦
              let none : length double.doubles ≡ 0 = ap (λ (l : List ℕ). length l) stays.1 in
              let tests : cond {A = ℕ} (ltb 1 (p + 1)) 1 0 ≡ cond (ltb 1 p) 1 0 = (elim (cases_lt 1 p) [
                | inl more ↦ ap (λ (t : Bool). cond {A = ℕ} t 1 0) (lt-ltb 1 (p + 1) (omega (arith, more)) ∙ sym (lt-ltb 1 p more))
                | inr few_p ↦ ap (λ (t : Bool). cond {A = ℕ} t 1 0) (le-ltb 1 (p + 1) (omega (arith, few_p, stays.0))
                    ∙ sym (le-ltb 1 p few_p))
              ]) in
              sums (free_blocks new) (free_blocks old) p (length double.doubles) (length (double.doubles ++ table ∷ []))
              (cond (ltb 1 (p + 1)) 1 0) (cond (ltb 1 p) 1 0) less long (omega (arith, none, tests))
          | inr comes ↦
              let one : length double.doubles ≡ 1 = ap (λ (l : List ℕ). length l) comes.1 in
              let now : cond {A = ℕ} (ltb 1 (p + 1)) 1 0 ≡ 1 =
              ap (λ (t : Bool). cond {A = ℕ} t 1 0) (lt-ltb 1 (p + 1) (omega (arith, comes.0))) in
              let was : cond {A = ℕ} (ltb 1 p) 1 0 ≡ 0 = ap (λ (t : Bool). cond {A = ℕ} t 1 0) (le-ltb 1 p (omega (arith, comes.0))) in
              sums (free_blocks new) (free_blocks old) p (length double.doubles) (length (double.doubles ++ table ∷ []))
              (cond (ltb 1 (p + 1)) 1 0) (cond (ltb 1 p) 1 0) less long (omega (arith, one, now, was))
        ]
      where
        sums : (a b p d l x y : ℕ) → a + l ≡ b → l ≡ d + 1 → x ≡ d + y → a + (p + 1 + x) ≡ b + (p + y)
        sums a b p d l x y fewer long total = omega (arith, fewer, long, total)

    pub adds_table : AddsTable i inode inode2 old new
    adds_table = record {
      count = count_new;
      whole = λ all. puts.whole (double.whole (zeros.whole all));
      size = puts.size ∙ double.size;
      same = same_pointer;
      head = λ a w before. puts.head a w before ∙ double.head a w (omega (arith, before));
      tail = λ a w behind. puts.tail a w (omega (arith, behind)) ∙ double.tail a w behind;
      names = subst (λ (n : ℕ). NamesBlocks n f new) (sym count_then) names_new;
      double_stays = elim double.double [
        | inl stays ↦ inr (double_is ∙ stays.2)
        | inr comes ↦ inl (names.no_double (omega (arith, comes.0)))
      ];
      tables_stay = λ q. elim (cases_eq q p) [
        | inl here ↦ inl (ap (indirect_pointer e) here ∙ names.none p (omega arith))
        | inr other ↦ inr (same_number q other)
      ];
      doubles = double.doubles;
      doubles_are = doubles_new;
      tables = table ∷ [];
      tables_are = ap (tables_to f) count_then ∙ tables_new ∙ ap (λ (n : ℕ). tables_to e n ++ table ∷ []) (sym count_is);
      takes = all_taken;
      fewer = ap (λ (n : ℕ). free_blocks new + with_double n) count_then ∙ fewer_new
          ∙ ap (λ (n : ℕ). free_blocks old + with_double n) (sym count_is);
      blocks = λ b some apart second.
          let place : (i - 10) / 1024 ≡ p = omega (arith, is) in
          puts.blocks b (λ same. apart (same ∙ sym double_is))
          ∙ double.blocks b (omega (arith, some, zeros.count)) (λ same. apart (same ∙ sym double_is))
          ∙ zeros.blocks b some (λ same. second (same ∙ sym (ap (indirect_pointer f) place ∙ puts.here)));
    }
