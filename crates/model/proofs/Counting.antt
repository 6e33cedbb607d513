-- How many blocks and inodes are free beside the files that blocks hold.
use Rattle.std.proofs.Common.{◌≡◌, ◌≢◌, inl, inr, ◌<◌, ◌≤◌, ℕ, zero, suc, ◌+◌, cond, eqb, Bool, true, false, count_by, List, [], ◌∷◌}
use Rattle.std.proofs.Common.{◌++◌, length, map, refl, sym, ◌∙◌, ap, subst, arith, length-append}
use Rattle.std.specs.Prelude.{Option, Some, None, not, ◌||◌, ◌==◌}
use Rattle.std.specs.List.{Contains, range_with_len, flat_map, list_any}
use Rattle.std.specs.Option.{option_to_list}
use Rattle.std.proofs.lemmas.Bool.{cases_lt, cases_eq, cond-true, cond-false, eqb-true, eq-eqb, ne_eqb, lt-ltb, le-ltb}
use Rattle.std.proofs.lemmas.Bool.{false_from_ne_true, true≢false}
use Rattle.std.proofs.lemmas.List.Elements.{Contains-append_left, Contains-append_right, Contains-append_cases}
use Rattle.std.proofs.lemmas.List.FromFn.{length-map-range_with_len, length-range_with_len}
use Rattle.std.proofs.lemmas.List.Sums.{sum_by-cons, sum_by-append}
use Rattle.model.specs.Stream.{Octets}
use Rattle.model.specs.Volume.{AreDistinct}
use Rattle.model.specs.Files.{File, HasRoom, IsFile, IsFree, IsFileSystem, content_of, entry, file_at, files_in, first_data, double_pointer}
use Rattle.model.specs.Files.{bitmap_bits, free_blocks, free_inodes, indirect_for, is_marked_used, kind, name_in, owned, size, slot_of}
use Rattle.model.specs.Files.{table, IsUsed}
use Rattle.model.specs.Room.{blocks_for, blocks_of_files, content_blocks}
use Rattle.model.specs.Laws.Room.{FreeIsBeside}
use Rattle.model.proofs.HoldsOne.{there_few}
use Rattle.model.proofs.Distinct.{distinct_append, distinct_cons, distinct_head, distinct_none, distinct_tail}
use Rattle.model.proofs.Owning.{free_kind, free_owns, owned_with, owned_without, content_size}

-- ---- counts

pub count_cons : (p : ℕ → Bool) (x : ℕ) (xs : List ℕ) → count_by p (x ∷ xs) ≡ cond (p x) 1 0 + count_by p xs
count_cons p x xs = sum_by-cons (λ n. cond (p n) 1 0) x xs

-- two tests that agree on a range
count_same : (p q : ℕ → Bool) (a n : ℕ) → ((b : ℕ) → a ≤ b → b < a + n → p b ≡ q b)
    → count_by p (range_with_len a n) ≡ count_by q (range_with_len a n)
count_same p q a zero same = refl
count_same p q a (suc n) same =
    count_cons p a (range_with_len (a + 1) n)
    ∙ ap (λ (t : Bool). cond t 1 0 + count_by p (range_with_len (a + 1) n)) (same a (omega arith) (omega arith))
    ∙ ap (λ (m : ℕ). cond (q a) 1 0 + m) (count_same p q (a + 1) n (λ b low high. same b (omega arith) (omega arith)))
    ∙ sym (count_cons q a (range_with_len (a + 1) n))

-- of a test and its negation exactly one passes
not_one : (b : Bool) → cond b 1 0 + cond (not b) 1 0 ≡ 1
not_one true = refl
not_one false = refl

count_not : (p : ℕ → Bool) (a n : ℕ) → count_by p (range_with_len a n) + count_by (λ b. not (p b)) (range_with_len a n) ≡ n
count_not p a zero = refl
count_not p a (suc n) =
    let one = count_cons p a (range_with_len (a + 1) n) in
    let other = count_cons (λ b. not (p b)) a (range_with_len (a + 1) n) in
    omega (arith, one, other, not_one (p a), count_not p (a + 1) n)

-- one of two tests that never both pass
either_one : (x y : Bool) → (x ≡ true → y ≡ true → ⊥) → cond (x || y) 1 0 ≡ cond x 1 0 + cond y 1 0
either_one true true apart = absurd (apart refl refl)
either_one true false apart = refl
either_one false true apart = refl
either_one false false apart = refl

count_either : (p q : ℕ → Bool) → ((b : ℕ) → p b ≡ true → q b ≡ true → ⊥) → (xs : List ℕ)
    → count_by (λ b. p b || q b) xs ≡ count_by p xs + count_by q xs
count_either p q apart [] = refl
count_either p q apart (x ∷ xs) =
    omega (
      arith,
      count_cons (λ b. p b || q b) x xs,
      count_cons p x xs,
      count_cons q x xs,
      either_one (p x) (q x) (apart x),
      count_either p q apart xs,
    )

-- one number, another number
other_number : (m a : ℕ) → m ≢ a → ◌≡◌ {A = ℕ} (cond (eqb m a) 1 0) 0
other_number m a other = cond-false {A = ℕ} (eqb m a) 1 0 (ne_eqb m a other)

same_number : (m a : ℕ) → m ≡ a → ◌≡◌ {A = ℕ} (cond (eqb m a) 1 0) 1
same_number m a same = cond-true {A = ℕ} (eqb m a) 1 0 (eq-eqb m a same)

count_none : (m a n : ℕ) → m < a → count_by (λ b. eqb m b) (range_with_len a n) ≡ 0
count_none m a zero below = refl
count_none m a (suc n) below =
    omega (
      arith,
      count_cons (λ b. eqb m b) a (range_with_len (a + 1) n),
      other_number m a (λ same. omega arith),
      count_none m (a + 1) n (omega arith),
    )

-- a number of the range is there once
count_one : (m a n : ℕ) → a ≤ m → m < a + n → count_by (λ b. eqb m b) (range_with_len a n) ≡ 1
count_one m a zero low high = absurd (omega arith)
count_one m a (suc n) low high = elim (cases_eq m a) [
  | inl same ↦ omega (
    arith,
    count_cons (λ b. eqb m b) a (range_with_len (a + 1) n),
    same_number m a same,
    count_none m (a + 1) n (omega arith),
  )
  | inr other ↦ omega (
    arith,
    count_cons (λ b. eqb m b) a (range_with_len (a + 1) n),
    other_number m a other,
    count_one m (a + 1) n (omega arith) (omega arith),
  )
]

-- ---- numbers in a list

-- among these numbers
abbrev among : List ℕ → ℕ → Bool
among ns b = list_any (λ n. eqb n b) ns

among_from : (ns : List ℕ) (b : ℕ) → Contains ns b → among ns b ≡ true
among_from [] b (k, low, is) = absurd (omega arith)
among_from (n ∷ ns) b (zero, low, is) = ap (λ (t : Bool). t || among ns b) (eq-eqb n b is)
among_from (n ∷ ns) b (suc k, low, is) = by_first (eqb n b) (among_from ns b (k, omega arith, is)) where
  by_first : (t : Bool) → among ns b ≡ true → (t || among ns b) ≡ true
  by_first true rest = refl
  by_first false rest = rest

from_among : (ns : List ℕ) (b : ℕ) → among ns b ≡ true → Contains ns b
from_among [] b is = absurd (cc)
from_among (n ∷ ns) b is = by_first (eqb n b) refl is (from_among ns b) where
  by_first : (t : Bool) → eqb n b ≡ t → (t || among ns b) ≡ true → (among ns b ≡ true → Contains ns b) → Contains (n ∷ ns) b
  by_first true here there rest = (0, omega arith, eqb-true n b here)
  by_first false here there rest = let found = rest there in (suc found.0, omega (arith, found.1), found.2)

-- this many numbers below the limit
count_among : (limit : ℕ) (ns : List ℕ) → AreDistinct ns → ((b : ℕ) → Contains ns b → b < limit)
    → count_by (among ns) (range_with_len 0 limit) ≡ length ns
count_among limit [] distinct below = none 0 limit where
  none : (a n : ℕ) → count_by (λ (b : ℕ). false) (range_with_len a n) ≡ 0
  none a zero = refl
  none a (suc n) = omega (arith, count_cons (λ (b : ℕ). false) a (range_with_len (a + 1) n), none (a + 1) n)
count_among limit (n ∷ ns) distinct below =
    let fits : n < 0 + limit = omega (arith, below n (0, omega arith, refl)) in
    let here = count_one n 0 limit (omega arith) fits in
    let rest = count_among limit ns (distinct_tail n ns distinct) (λ b has. below b (suc has.0, omega (arith, has.1), has.2)) in
    let both = count_either (λ b. eqb n b) (among ns)
    (λ b first second. distinct_head n ns distinct (subst (Contains ns) (sym (eqb-true n b first)) (from_among ns b second)))
    (range_with_len 0 limit) in
    omega (arith, here, rest, both)

-- ---- the blocks in use

range_has : (a n b : ℕ) → Contains (range_with_len a n) b → (a ≤ b) × (b < a + n)
range_has a zero b (k, low, is) = absurd (omega arith)
range_has a (suc n) b (zero, low, is) = (omega arith, omega arith)
range_has a (suc n) b (suc k, low, is) = let rest = range_has (a + 1) n b (k, omega arith, is) in
    (omega (arith, rest.0), omega (arith, rest.1))

pub in_range : (a n b : ℕ) → a ≤ b → b < a + n → Contains (range_with_len a n) b
in_range a zero b low high = absurd (omega arith)
in_range a (suc n) b low high = elim (cases_eq a b) [
  | inl same ↦ (0, omega arith, same)
  | inr other ↦ let rest = in_range (a + 1) n b (omega arith) (omega arith) in (suc rest.0, omega (arith, rest.1), rest.2)
]

range_distinct : (a n : ℕ) → AreDistinct (range_with_len a n)
range_distinct a zero = distinct_none
range_distinct a (suc n) = distinct_cons a (range_with_len (a + 1) n) (λ has. omega (arith, (range_has (a + 1) n a has).0))
    (range_distinct (a + 1) n)

module _ (inodes : ℕ) (blocks : List Octets) (fs : IsFileSystem inodes blocks) where
  abbrev owned_at : ℕ → List ℕ
  owned_at k = owned (entry inodes blocks k)

  -- what the entries from one on own
  abbrev owned_from : ℕ → ℕ → List ℕ
  owned_from a n = flat_map owned_at (range_with_len a n)

  record IsOwner (a n b : ℕ) : Type 0 where
    inode : ℕ
    from : a ≤ inode
    below : inode < a + n
    owns : Contains (owned_at inode) b

  owner : (a n b : ℕ) → Contains (owned_from a n) b → IsOwner a n b
  owner a zero b (k, low, is) = absurd (omega arith)
  owner a (suc n) b has = elim (Contains-append_cases (owned_at a) (owned_from (a + 1) n) b has) [
    | inl here ↦ record { inode = a; from = omega arith; below = omega arith; owns = here }
    | inr later ↦
        let rest = owner (a + 1) n b later in
        record { inode = rest.inode; from = omega (arith, rest.from); below = omega (arith, rest.below); owns = rest.owns }
  ]

  owned_in : (a n k b : ℕ) → a ≤ k → k < a + n → Contains (owned_at k) b → Contains (owned_from a n) b
  owned_in a zero k b low high has = absurd (omega arith)
  owned_in a (suc n) k b low high has = elim (cases_eq a k) [
    | inl same ↦ Contains-append_left (owned_at a) (owned_from (a + 1) n) b (subst (λ (j : ℕ). Contains (owned_at j) b) (sym same) has)
    | inr other ↦ Contains-append_right (owned_at a) (owned_from (a + 1) n) b (owned_in (a + 1) n k b (omega arith) (omega arith) has)
  ]

  owned_distinct : (a n : ℕ) → a + n ≤ inodes → AreDistinct (owned_from a n)
  owned_distinct a zero few = distinct_none
  owned_distinct a (suc n) few =
      distinct_append (owned_at a) (owned_from (a + 1) n) (fs.distinct a (omega arith)) (owned_distinct (a + 1) n (omega arith))
      (λ b here later.
      let other = owner (a + 1) n b later in
      let same : a ≡ other.inode = fs.one_owner a other.inode b (omega arith) (omega (arith, other.below)) here other.owns in
      omega (arith, same, other.from))

  -- the blocks in use, none of them twice
  abbrev used : List ℕ
  used = range_with_len 0 (first_data (length blocks) inodes) ++ owned_from 0 inodes

  used_distinct : AreDistinct used
  used_distinct = distinct_append (range_with_len 0 (first_data (length blocks) inodes)) (owned_from 0 inodes)
      (range_distinct 0 (first_data (length blocks) inodes))
      (owned_distinct 0 inodes (omega arith)) (λ b reserved later.
      let its = owner 0 inodes b later in
      omega (
        arith,
        (range_has 0 (first_data (length blocks) inodes) b reserved).1,
        (fs.within its.inode b (omega (arith, its.below)) its.owns).0,
      ))

  used_below : (b : ℕ) → first_data (length blocks) inodes ≤ length blocks → Contains used b → b < length blocks
  used_below b room has = elim (Contains-append_cases (range_with_len 0 (first_data (length blocks) inodes)) (owned_from 0 inodes) b has) [
    | inl reserved ↦ omega (arith, (range_has 0 (first_data (length blocks) inodes) b reserved).1)
    | inr later ↦ let its = owner 0 inodes b later in omega (arith, (fs.within its.inode b (omega (arith, its.below)) its.owns).1)
  ]

  used_is : (b : ℕ) → Contains used b → IsUsed inodes blocks b
  used_is b has = elim (Contains-append_cases (range_with_len 0 (first_data (length blocks) inodes)) (owned_from 0 inodes) b has) [
    | inl reserved ↦ inl (omega (arith, (range_has 0 (first_data (length blocks) inodes) b reserved).1))
    | inr later ↦ let its = owner 0 inodes b later in inr (its.inode, omega (arith, its.below), its.owns)
  ]

  is_used : (b : ℕ) → IsUsed inodes blocks b → Contains used b
  is_used b holds = elim holds [
    | inl reserved ↦ Contains-append_left (range_with_len 0 (first_data (length blocks) inodes)) (owned_from 0 inodes) b
        (in_range 0 (first_data (length blocks) inodes) b (omega arith) (omega arith))
    | inr its ↦ Contains-append_right (range_with_len 0 (first_data (length blocks) inodes)) (owned_from 0 inodes) b
        (owned_in 0 inodes its.0 b (omega arith) (omega (arith, its.1)) its.2)
  ]

  marks_among : (b : ℕ) → b < bitmap_bits (length blocks) → is_marked_used blocks b ≡ among used b
  marks_among b small = by_mark (is_marked_used blocks b) refl where
    by_mark : (t : Bool) → is_marked_used blocks b ≡ t → t ≡ among used b
    by_mark true is = sym (among_from used b (is_used b ((fs.bits b small).0 is)))
    by_mark false is = sym (false_from_ne_true (among used b)
        (λ has. true≢false (sym ((fs.bits b small).1 (used_is b (from_among used b has))) ∙ is)))

  free_count : HasRoom inodes blocks → free_blocks blocks + length used ≡ length blocks
  free_count room =
      let marked = count_same (is_marked_used blocks) (among used) 0 (length blocks)
      (λ b low high. marks_among b (omega (arith, room.count_few))) in
      let counted = count_among (length blocks) used used_distinct (λ b has. used_below b (omega (arith, room.room)) has) in
      omega (arith, count_not (is_marked_used blocks) 0 (length blocks), marked, counted)

  -- ---- by files

  abbrev there : ℕ → Option File
  there k = file_at inodes blocks k

  abbrev its_file : ℕ → File
  its_file k = record { name = name_in (slot_of inodes blocks k); content = content_of blocks (entry inodes blocks k) }

  none_at : (k : ℕ) → IsFree (entry inodes blocks k) → there k ≡ None
  none_at k free = ap (λ (n : ℕ). cond (eqb n 0) None (Some (its_file k))) (free_kind (entry inodes blocks k) free)

  file_there : (k : ℕ) → IsFile (entry inodes blocks k) → there k ≡ Some (its_file k)
  file_there k file = ap (λ (n : ℕ). cond (eqb n 0) None (Some (its_file k))) file.kind_is

  file_blocks : HasRoom inodes blocks → (k : ℕ) → k < inodes → IsFile (entry inodes blocks k)
      → length (owned_at k) ≡ blocks_for (length (content_of blocks (entry inodes blocks k)))
  file_blocks room k low file =
      let e = entry inodes blocks k in
      let octets : length (content_of blocks e) ≡ size e = content_size blocks e room.blocks_whole (λ b has. (fs.within k b low has).1) in
      let same : blocks_for (length (content_of blocks e)) ≡ blocks_for (size e) = ap blocks_for octets in
      elim (cases_lt 1 (indirect_for (content_blocks (size e)))) [
        | inl large ↦
            let more : blocks_for (size e) ≡ content_blocks (size e) + (indirect_for (content_blocks (size e)) + 1) =
            ap (λ (b : Bool). content_blocks (size e) + (indirect_for (content_blocks (size e)) + cond b 1 0))
            (lt-ltb 1 (indirect_for (content_blocks (size e))) large) in
            omega (arith, owned_with e (file.double_where.0 large), same, more)
        | inr small ↦
            let more : blocks_for (size e) ≡ content_blocks (size e) + (indirect_for (content_blocks (size e)) + 0) =
            ap (λ (b : Bool). content_blocks (size e) + (indirect_for (content_blocks (size e)) + cond b 1 0))
            (le-ltb 1 (indirect_for (content_blocks (size e))) small) in
            elim (cases_eq (double_pointer e) 0) [
              | inl none ↦ omega (arith, owned_without e none, same, more)
              | inr some ↦ absurd (let over = file.double_where.1 some in omega (arith, over, small))
            ]
      ]

  blocks_at : HasRoom inodes blocks → (k : ℕ) → k < inodes → length (owned_at k) ≡ blocks_of_files (option_to_list (there k))
  blocks_at room k low = elim (fs.each k low) [
    | inl free ↦ ap (λ (l : List ℕ). length l) (free_owns (entry inodes blocks k) free)
        ∙ ap (λ (o : Option File). blocks_of_files (option_to_list o)) (sym (none_at k free))
    | inr file ↦
        let one : blocks_for (length (content_of blocks (entry inodes blocks k))) ≡ blocks_of_files (its_file k ∷ []) =
        omega (arith, sum_by-cons (λ (f : File). blocks_for (length f.content)) (its_file k) []) in
        file_blocks room k low file ∙ one ∙ ap (λ (o : Option File). blocks_of_files (option_to_list o)) (sym (file_there k file))
  ]

  blocks_from : HasRoom inodes blocks → (a n : ℕ) → a + n ≤ inodes
      → length (owned_from a n) ≡ blocks_of_files (files_in (map there (range_with_len a n)))
  blocks_from room a zero few = refl
  blocks_from room a (suc n) few =
      omega (
        arith,
        length-append (owned_at a) (owned_from (a + 1) n),
        blocks_at room a (omega arith),
        blocks_from room (a + 1) n (omega arith),
        sum_by-append (λ (f : File). blocks_for (length f.content)) (option_to_list (there a))
            (files_in (map there (range_with_len (a + 1) n))),
      )

  -- free inodes are those without a file
  free_one : (k : ℕ) → cond (kind (entry inodes blocks k) == 0) 1 0 + length (option_to_list (there k)) ≡ 1
  free_one k = by_kind (kind (entry inodes blocks k) == 0) where
    by_kind : (b : Bool) → cond b 1 0 + length (option_to_list (cond b None (Some (its_file k)))) ≡ 1
    by_kind true = refl
    by_kind false = refl

  free_from : (a n : ℕ) → count_by (λ k. kind (entry inodes blocks k) == 0) (range_with_len a n) + length
      (files_in (map there (range_with_len a n))) ≡ n
  free_from a zero = refl
  free_from a (suc n) =
      omega (
        arith,
        count_cons (λ k. kind (entry inodes blocks k) == 0) a (range_with_len (a + 1) n),
        free_one a,
        free_from (a + 1) n,
        length-append (option_to_list (there a)) (files_in (map there (range_with_len (a + 1) n))),
      )

pub free_is_beside : FreeIsBeside
free_is_beside inodes blocks files room held =
    let fs = held.rule in
    let by_files : blocks_of_files files ≡ blocks_of_files (files_in (table inodes blocks)) = ap blocks_of_files held.contents in
    let count : length files ≡ length (files_in (table inodes blocks)) = ap (λ (l : List File). length l) held.contents in
    record {
      blocks_are =
          omega (
            arith,
            free_count inodes blocks fs room,
            length-append (range_with_len 0 (first_data (length blocks) inodes)) (owned_from inodes blocks fs 0 inodes),
            length-range_with_len 0 (first_data (length blocks) inodes),
            blocks_from inodes blocks fs room 0 inodes (omega arith),
            by_files,
          );
      inodes_are = omega (arith, free_from inodes blocks fs 0 inodes, count);
    }

-- each inode is free, or has a file
pub used_and_free : (inodes : ℕ) (blocks : List Octets) → HasRoom inodes blocks → IsFileSystem inodes blocks
    → free_inodes inodes blocks + length (files_in (table inodes blocks)) ≡ inodes
used_and_free inodes blocks room rule =
    let files = files_in (table inodes blocks) in
    let beside = (free_is_beside inodes blocks files room (record { rule = rule; contents = refl })).inodes_are in
    omega (arith, beside, there_few (table inodes blocks), length-map-range_with_len (λ k. file_at inodes blocks k) 0 inodes)
