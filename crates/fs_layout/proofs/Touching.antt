-- Changes one after the other, and the blocks that they reach.
use Rattle.model.specs.Files.{bitmap_blocks, largest_file_one}
use Rattle.std.proofs.Common.{◌≡◌, ◌≢◌, ◌⊎◌, inl, inr, ◌<◌, ◌≤◌, ℕ, ◌+◌, ◌-◌, ◌*◌, ◌/◌, ◌%◌, cond, ltb, Bool, List, [], ◌∷◌, ◌++◌}
use Rattle.std.proofs.Common.{length, map, set, refl, sym, ◌∙◌, ap, subst, arith, length-append, length-set}
use Rattle.std.specs.List.{Contains, range_with_len}
use Rattle.std.proofs.lemmas.Bool.{cases_lt, le-ltb, lt-ltb, ne_eqb}
use Rattle.std.proofs.lemmas.List.{get_or-set_other}
use Rattle.std.proofs.lemmas.List.Elements.{Contains-append_left, Contains-append_right, Contains-push_cases}
use Rattle.std.proofs.lemmas.List.FromFn.{length-map-range_with_len, get_or-map-range_with_len}
use Rattle.model.specs.Stream.{Octets}
use Rattle.model.specs.Asked.{pointers_put}
use Rattle.model.specs.Room.{content_blocks}
use Rattle.fs_layout.specs.Blocks.{PutsRecord}
use Rattle.fs_layout.specs.Touches.{SameBut, Touches, TouchesInode, TouchesData, inode_block, slot_block, double_of, table_of}
use Rattle.fs_layout.specs.Touches.{blocks_reached, touched_by_cut, touched_by_growth}

-- ---- lists of numbers

pub is_first : (x : ℕ) (xs : List ℕ) (b : ℕ) → b ≡ x → Contains (x ∷ xs) b
is_first x xs b is = (0, omega arith, sym is)

pub is_later : (x : ℕ) (xs : List ℕ) (b : ℕ) → Contains xs b → Contains (x ∷ xs) b
is_later x xs b has = Contains-append_right (x ∷ []) xs b has

pub one_number : (x b : ℕ) → Contains (x ∷ []) b → b ≡ x
one_number x b has = elim (Contains-push_cases [] x b has) [ inl none ↦ absurd (omega (arith, none.1)) | inr is ↦ sym is ]

pub not_two : (x y b : ℕ) → b ≢ x → b ≢ y → ¬ (Contains (x ∷ y ∷ []) b)
not_two x y b other another has =
    elim (Contains-push_cases (x ∷ []) y b has) [ inl first ↦ other (one_number x b first) | inr is ↦ another (sym is) ]

-- ---- the law

pub same_then : (xs ys : List ℕ) (old mid new : List Octets) → length mid ≡ length old → SameBut xs old mid → SameBut ys mid new
    → SameBut (ys ++ xs) old new
same_then xs ys old mid new count first second b some lacks =
    second b (omega (arith, some, count)) (λ has. lacks (Contains-append_left ys xs b has))
    ∙ first b some (λ has. lacks (Contains-append_right ys xs b has))

-- a change that reaches m blocks and then one that reaches n reach m + n
pub touches_then : (m n : ℕ) (old mid new : List Octets) → Touches m old mid → Touches n mid new → Touches (m + n) old new
touches_then m n old mid new first second = record {
  count = second.count ∙ first.count;
  others = second.others ++ first.others;
  few = omega (arith, length-append second.others first.others, first.few, second.few);
  same = same_then first.others second.others old mid new first.count first.same second.same;
}

pub touches_more : (m n : ℕ) (old new : List Octets) → m ≤ n → Touches m old new → Touches n old new
touches_more m n old new less touches = record
    { count = touches.count; others = touches.others; few = omega (arith, less, touches.few); same = touches.same }

pub same_put : (number : ℕ) (block : Octets) (old : List Octets) → SameBut (number ∷ []) old (set old number block)
same_put number block old b some lacks = get_or-set_other old number b block [] (λ is. lacks (is_first number [] b is))

-- ---- the bitmap alone

pub put_in_bitmap : (number : ℕ) (block : Octets) (old : List Octets) → number < bitmap_blocks (length old)
    → Touches 0 old (set old number block)
put_in_bitmap number block old low = record {
  count = length-set old number block;
  others = [];
  few = omega arith;
  same = λ b some lacks. get_or-set_other old number b block [] (omega arith);
}

-- ---- an inode and its slot

pub inode_then_slot : (inodes k : ℕ) (octets slot : Octets) (old mid new : List Octets)
    → PutsRecord (bitmap_blocks (length old)) k octets old mid
    → PutsRecord (bitmap_blocks (length mid) + inodes / 64) k slot mid new
    → SameBut (inode_block (length old) k ∷ slot_block (length old) inodes k ∷ []) old new
inode_then_slot inodes k octets slot old mid new first second b some lacks =
    second.blocks b (λ is. lacks (is_later (inode_block (length old) k) (slot_block (length old) inodes k ∷ []) b
    (is_first (slot_block (length old) inodes k) [] b (is ∙ ap (λ (n : ℕ). slot_block n inodes k) first.count))))
    ∙ first.blocks b (λ is. lacks (is_first (inode_block (length old) k) (slot_block (length old) inodes k ∷ []) b is))

pub slot_then_inode : (inodes k : ℕ) (octets slot : Octets) (old mid new : List Octets)
    → PutsRecord (bitmap_blocks (length old) + inodes / 64) k slot old mid
    → PutsRecord (bitmap_blocks (length mid)) k octets mid new → Touches 2 old new
slot_then_inode inodes k octets slot old mid new first second = record {
  count = second.count ∙ first.count;
  others = inode_block (length old) k ∷ slot_block (length old) inodes k ∷ [];
  few = omega arith;
  same = λ b some lacks.
      second.blocks b (λ is. lacks (is_first (inode_block (length old) k) (slot_block (length old) inodes k ∷ []) b
      (is ∙ ap (λ (n : ℕ). inode_block n k) first.count)))
      ∙ first.blocks b (λ is. lacks (is_later (inode_block (length old) k) (slot_block (length old) inodes k ∷ []) b
      (is_first (slot_block (length old) inodes k) [] b is)));
}

-- ---- an inode, and the blocks that name blocks

pub inode_none : (k from : ℕ) (old : List Octets) → TouchesInode k from from old old
inode_none k from old = record { count = refl; same = λ b some other named. refl; double = inl refl; tables = λ p. inl refl }

-- blocks are freed from the end
pub inode_then : (k from mid_at to : ℕ) (old mid new : List Octets) → from ≤ mid_at → mid_at ≤ to → TouchesInode k mid_at to old mid
    → TouchesInode k from mid_at mid new → TouchesInode k from to old new
inode_then k from mid_at to old mid new low high first second = record {
  count = second.count ∙ first.count;
  same = λ b some other named.
      second.same b (omega (arith, some, first.count)) (λ is. other (is ∙ ap (λ (n : ℕ). inode_block n k) first.count)) (λ i above below. (
        elim first.double [
          | inl stays ↦ λ is. (named i above (omega (arith, below, high))).0 (is ∙ stays)
          | inr goes ↦ λ is. omega (arith, some, is, goes)
        ],
        elim (first.tables ((i - 10) / 1024)) [
          | inl stays ↦ λ is. (named i above (omega (arith, below, high))).1 (is ∙ stays)
          | inr goes ↦ λ is. omega (arith, some, is, goes)
        ],
      ))
      ∙ first.same b some other (λ i above below. named i (omega (arith, above, low)) below);
  double = elim second.double [
    | inl stays ↦ elim first.double [ inl stayed ↦ inl (stays ∙ stayed) | inr gone ↦ inr (stays ∙ gone) ]
    | inr goes ↦ inr goes
  ];
  tables = λ p. elim (second.tables p) [
    | inl stays ↦ elim (first.tables p) [ inl stayed ↦ inl (stays ∙ stayed) | inr gone ↦ inr (stays ∙ gone) ]
    | inr goes ↦ inr goes
  ];
}

-- the blocks that name the blocks of a file's octets from one place to another
pub record Naming (d : ℕ) (t : ℕ → ℕ) (from to end : ℕ) : Type 0 where
  pub blocks : List ℕ
  pub few : length blocks ≤ pointers_put (to - from) end
  pub apart : (b : ℕ) → 2 ≤ b → ¬ (Contains blocks b) → (i : ℕ) → from ≤ i → i < to → (b ≢ d) × (b ≢ t ((i - 10) / 1024))

module _ (d : ℕ) (t : ℕ → ℕ) (from to end : ℕ) (counted : to ≡ (end + 4095) / 4096) (within : from ≤ to) (no_double : to ≤ 1034
    → d ≡ 0) (no_table : to ≤ 10 → t 0 ≡ 0) where
  -- the place of the first of them, and their number
  abbrev first : ℕ
  first = (from - 10) / 1024

  abbrev many : ℕ
  many = (to - 11) / 1024 - (from - 10) / 1024 + 1

  abbrev their : List ℕ
  their = map t (range_with_len first many)

  is_theirs : (i : ℕ) → from ≤ i → i < to → Contains their (t ((i - 10) / 1024))
  is_theirs i above below =
      let place : (i - 10) / 1024 - first < many = omega (arith, above, below) in
      let at : first + ((i - 10) / 1024 - first) ≡ (i - 10) / 1024 = omega (arith, above) in
      let long = length-map-range_with_len t first many in (
        (i - 10) / 1024 - first,
        omega (arith, place, long),
        get_or-map-range_with_len t first many ((i - 10) / 1024 - first) ((i - 10) / 1024) (t ((i - 10) / 1024)) place at,
      )

  value : from < to → pointers_put (to - from) end
      ≡ cond (ltb largest_file_one end) (2 + (to - from + 1022) / 1024) (cond (ltb 40960 end) 1 0)
  value some =
      ap (λ (b : Bool). cond {A = ℕ} b 0 (cond (ltb largest_file_one end) (2 + (to - from + 1022) / 1024) (cond (ltb 40960 end) 1 0)))
      (ne_eqb (to - from) 0 (λ none. absurd (omega (arith, some, none))))

  -- in a file of at most 1,034 blocks they are in one block of pointers
  value_middle : 40960 < end → end ≤ largest_file_one → from < to → pointers_put (to - from) end ≡ 1
  value_middle large middle some =
      value some
      ∙ ap (λ (b : Bool). cond {A = ℕ} b (2 + (to - from + 1022) / 1024) (cond (ltb 40960 end) 1 0)) (le-ltb largest_file_one end middle)
      ∙ ap (λ (b : Bool). cond {A = ℕ} b 1 0) (lt-ltb 40960 end large)

  few_middle : end ≤ largest_file_one → from < to → length their ≤ 1
  few_middle middle some = omega (arith, length-map-range_with_len t first many, some, counted, middle)

  value_huge : largest_file_one < end → from < to → pointers_put (to - from) end ≡ 2 + (to - from + 1022) / 1024
  value_huge huge some = value some
      ∙ ap (λ (b : Bool). cond {A = ℕ} b (2 + (to - from + 1022) / 1024) (cond (ltb 40960 end) 1 0)) (lt-ltb largest_file_one end huge)

  few_huge : from < to → length their ≤ 1 + (to - from + 1022) / 1024
  few_huge some = omega (arith, length-map-range_with_len t first many, some)

  pub naming : Naming d t from to end
  naming = elim (cases_lt from to) [
    | inr none ↦ record { blocks = []; few = omega arith; apart = λ b some lacks i above below. absurd (omega (arith, above, below, none)) }
    | inl some_i ↦ elim (cases_lt 40960 end) [
      | inr small ↦ record {
        blocks = [];
        few = omega arith;
        apart = λ b some lacks i above below.
            let place : (i - 10) / 1024 ≡ 0 = omega (arith, below, counted, small) in (
              (λ is. absurd (let none = no_double (omega (arith, counted, small)) in omega (arith, some, is, none))),
              (λ is. absurd (let none = no_table (omega (arith, counted, small)) in let same = ap t place in
                  omega (arith, some, is, none, same))),
            );
      }
      | inl large ↦ elim (cases_lt largest_file_one end) [
        | inr middle ↦ record {
          blocks = their;
          few = omega (arith, value_middle large middle some_i, few_middle middle some_i);
          apart = λ b some lacks i above below. (
            (λ is. absurd (let none = no_double (omega (arith, counted, middle)) in omega (arith, some, is, none))),
            (λ is. lacks (subst (λ (n : ℕ). Contains their n) (sym is) (is_theirs i above below))),
          );
        }
        | inl huge ↦ record {
          blocks = d ∷ their;
          few = omega (arith, value_huge huge some_i, few_huge some_i);
          apart = λ b some lacks i above below. (
            (λ is. lacks (is_first d their b is)),
            (λ is. lacks (is_later d their b (subst (λ (n : ℕ). Contains their n) (sym is) (is_theirs i above below)))),
          );
        }
      ]
    ]
  ]

-- a file of `was` octets is cut to `size`
module _ (k was size : ℕ) (old new : List Octets) (less : size ≤ was) (no_double : content_blocks was ≤ 1034
    → double_of old k ≡ 0) (no_table : content_blocks was ≤ 10
    → table_of old k 0 ≡ 0) (touches : TouchesInode k (content_blocks size) (content_blocks was) old new) where
  named : Naming (double_of old k) (table_of old k) (content_blocks size) (content_blocks was) was
  named = naming (double_of old k) (table_of old k) (content_blocks size) (content_blocks was) was refl
      (omega (arith, less)) no_double no_table

  pub inode_touches : Touches (touched_by_cut was size) old new
  inode_touches = record {
    count = touches.count;
    others = inode_block (length old) k ∷ named.blocks;
    few = omega (arith, named.few);
    same = λ b some lacks.
        touches.same b some (λ is. lacks (is_first (inode_block (length old) k) named.blocks b is))
        (named.apart b (omega (arith, some)) (λ has. lacks (is_later (inode_block (length old) k) named.blocks b has)));
  }

  -- then its inode and its slot are freed
  pub inode_and_slot : (inodes : ℕ) (newer : List Octets) → length newer ≡ length new
      → SameBut (inode_block (length new) k ∷ slot_block (length new) inodes k ∷ []) new newer
      → Touches (1 + touched_by_cut was size) old newer
  inode_and_slot inodes newer count second = record {
    count = count ∙ touches.count;
    others = slot_block (length old) inodes k ∷ inode_block (length old) k ∷ named.blocks;
    few = omega (arith, named.few);
    same = λ b some lacks.
        let slot : b ≢ slot_block (length old) inodes k =
        λ is. lacks (is_first (slot_block (length old) inodes k) (inode_block (length old) k ∷ named.blocks) b is) in
        let other : b ≢ inode_block (length old) k =
        λ is. lacks (is_later (slot_block (length old) inodes k) (inode_block (length old) k ∷ named.blocks) b
        (is_first (inode_block (length old) k) named.blocks b is)) in
        second b (omega (arith, some, touches.count)) (not_two (inode_block (length new) k) (slot_block (length new) inodes k) b
        (λ is. other (is ∙ ap (λ (n : ℕ). inode_block n k) touches.count))
        (λ is. slot (is ∙ ap (λ (n : ℕ). slot_block n inodes k) touches.count)))
        ∙ touches.same b some other (named.apart b (omega (arith, some))
        (λ has. lacks (is_later (slot_block (length old) inodes k) (inode_block (length old) k ∷ named.blocks) b
        (is_later (inode_block (length old) k) named.blocks b has))));
  }

-- ---- data

pub data_none : (k from : ℕ) (old : List Octets) → TouchesData k [] from from old old
data_none k from old = record { count = refl; same = λ b some other named lacks. refl; double = inr refl; tables = λ p. inr refl }

pub data_then : (k : ℕ) (xs ys : List ℕ) (from mid_at to : ℕ) (old mid new : List Octets) → from ≤ mid_at → mid_at ≤ to
    → TouchesData k xs from mid_at old mid → TouchesData k ys mid_at to mid new → TouchesData k (ys ++ xs) from to old new
data_then k xs ys from mid_at to old mid new low high first second = record {
  count = second.count ∙ first.count;
  same = λ b some other named lacks.
      second.same b (omega (arith, some, first.count)) (λ is. other (is ∙ ap (λ (n : ℕ). inode_block n k) first.count))
      (λ i above below. named i (omega (arith, above, low)) below)
      (λ has. lacks (Contains-append_left ys xs b has))
      ∙ first.same b some other (λ i above below. (
        elim second.double [
          | inl none ↦ λ is. omega (arith, some, is, none)
          | inr stays ↦ λ is. (named i above (omega (arith, below, high))).0 (is ∙ sym stays)
        ],
        elim (second.tables ((i - 10) / 1024)) [
          | inl none ↦ λ is. omega (arith, some, is, none)
          | inr stays ↦ λ is. (named i above (omega (arith, below, high))).1 (is ∙ sym stays)
        ],
      )) (λ has. lacks (Contains-append_right ys xs b has));
  double = elim first.double [
    | inl none ↦ inl none
    | inr stayed ↦ elim second.double [ inl none ↦ inl (sym stayed ∙ none) | inr stays ↦ inr (stays ∙ stayed) ]
  ];
  tables = λ p. elim (first.tables p) [
    | inl none ↦ inl none
    | inr stayed ↦ elim (second.tables p) [ inl none ↦ inl (sym stayed ∙ none) | inr stays ↦ inr (stays ∙ stayed) ]
  ];
}

-- ---- how many blocks octets reach, piece by piece: each piece ends at the end of a block, or at the last octet

pub record Reached (place from count n : ℕ) : Type 0 where
  pub few : 4096 * n ≤ place % 4096 + from + 4095
  pub none : from ≡ 0 → n ≡ 0
  pub edge : (from ≡ 0) ⊎ ((place + from) % 4096 ≡ 0) ⊎ (from ≡ count)

pub reached_none : (place count : ℕ) → Reached place 0 count 0
reached_none place count = record { few = omega arith; none = λ is. refl; edge = inl refl }

pub reached_more : (place from some count x : ℕ) (xs : List ℕ) → Reached place from count (length xs) → from < count → 0 < some
    → (from + some < count → (place + (from + some)) % 4096 ≡ 0) → from + some ≤ count → Reached place (from + some) count (length (x ∷ xs))
reached_more place from some count x xs so_far left positive whole within = record {
  few = elim so_far.edge [
    | inl start ↦ omega (arith, so_far.none start, start, positive)
    | inr later ↦ elim later [
      | inl edge ↦ omega (arith, edge, so_far.few, positive)
      | inr end ↦ absurd (omega (arith, left, end))
    ]
  ];
  none = λ is. absurd (omega (arith, positive, is));
  edge = elim (cases_lt (from + some) count) [
    | inl more ↦ inr (inl (whole more))
    | inr end ↦ inr (inr (omega (arith, end, within)))
  ];
}

pub reached_all : (place from count n : ℕ) → Reached place from count n → from ≤ count → n ≤ blocks_reached place count
reached_all place from count n so_far within = omega (arith, so_far.few, within)

-- a file of so many octets has got the first of so many more
pub record Spread (k size from count : ℕ) (old new : List Octets) : Type 0 where
  pub blocks : List ℕ
  pub touched : TouchesData k blocks (content_blocks size) (content_blocks (size + from)) old new
  pub reached : Reached size from count (length blocks)

pub spread_none : (k size count : ℕ) (old : List Octets) → Spread k size 0 count old old
spread_none k size count old = record {
  blocks = [];
  touched = let none : size ≡ size + 0 = omega arith in
      subst (λ (n : ℕ). TouchesData k [] (content_blocks size) (content_blocks n) old old) none (data_none k (content_blocks size) old);
  reached = reached_none size count;
}

pub spread_more : (k size from some count : ℕ) (old mid new : List Octets) → Spread k size from count old mid
    → (block : ℕ) × TouchesData k (block ∷ []) (content_blocks (size + from)) (content_blocks (size + from + some)) mid new → from < count
    → 0 < some → (from + some < count → (size + (from + some)) % 4096 ≡ 0) → from + some ≤ count → Spread k size (from + some) count old new
spread_more k size from some count old mid new so_far (block, piece) left positive whole within = record {
  blocks = block ∷ so_far.blocks;
  touched =
      let sum : size + from + some ≡ size + (from + some) = omega arith in
      subst (λ (n : ℕ). TouchesData k (block ∷ so_far.blocks) (content_blocks size) (content_blocks n) old new) sum
      (data_then k so_far.blocks (block ∷ []) (content_blocks size) (content_blocks (size + from))
      (content_blocks (size + from + some)) old mid new (omega arith) (omega arith) so_far.touched piece);
  reached = reached_more size from some count block so_far.blocks so_far.reached left positive whole within;
}

module _ (k size count : ℕ) (old new : List Octets) (no_double : content_blocks (size + count) ≤ 1034
    → double_of new k ≡ 0) (no_table : content_blocks (size + count) ≤ 10
    → table_of new k 0 ≡ 0) (so_far : Spread k size count count old new) where
  spread_named : Naming (double_of new k) (table_of new k) (content_blocks size) (content_blocks (size + count)) (size + count)
  spread_named = naming (double_of new k) (table_of new k) (content_blocks size) (content_blocks (size + count)) (size + count) refl
      (omega arith) no_double no_table

  pub spread_all : Touches (touched_by_growth size count) old new
  spread_all = record {
    count = so_far.touched.count;
    others = inode_block (length old) k ∷ (spread_named.blocks ++ so_far.blocks);
    few = omega (
      arith,
      length-append spread_named.blocks so_far.blocks,
      spread_named.few,
      reached_all size count count (length so_far.blocks) so_far.reached (omega arith),
    );
    same = λ b some lacks.
        so_far.touched.same b some (λ is. lacks (is_first (inode_block (length old) k) (spread_named.blocks ++ so_far.blocks) b is))
        (spread_named.apart b (omega (arith, some)) (λ has. lacks
        (is_later (inode_block (length old) k) (spread_named.blocks ++ so_far.blocks) b
        (Contains-append_left spread_named.blocks so_far.blocks b has))))
        (λ has. lacks (is_later (inode_block (length old) k) (spread_named.blocks ++ so_far.blocks) b
        (Contains-append_right spread_named.blocks so_far.blocks b has)));
  }
