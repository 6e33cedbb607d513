-- The names of files: those without a rank are gathered in a set of slots, and the ranks of the others rise.
use Rattle.std.proofs.Common.{◌≡◌, inl, inr, ◌<◌, ◌≤◌, ℕ, ◌+◌, Bool, true, false, cond, List, get_or, refl, sym, ◌∙◌, ap, subst, arith}
use Rattle.std.specs.BTreeSet.{BTreeSet, contains, Updates, IsEmpty}
use Rattle.std.specs.BTreeMap.{is_at}
use Rattle.std.specs.Cmp.Lexicographic.{slice_cmp}
use Rattle.std.specs.Ordering.{nat_cmp}
use Rattle.std.specs.List.{list_any}
use Rattle.std.proofs.lemmas.Bool.{cases_lt, false≢true}
use Rattle.std.proofs.lemmas.Map.Lookups.{exact_bytes}
use Rattle.std.proofs.lemmas.Map.Views.{tells_apart}
use Rattle.model.specs.Stream.{Octets}
use Rattle.model.specs.Files.{IsFile, name_in, slot_octets, entry, slot_of}
use Rattle.model.proofs.Owning.{zero_at}
use Rattle.fs_check.specs.Checking.{IsEntry, HasDistinctNames}

abbrev pub has : BTreeSet (List ℕ) → Octets → Bool
has slots slot = contains (slice_cmp nat_cmp) slots slot

-- the set has the slots of the files among the first entries that have no rank, no rank is above the last one, and the
-- names of these files are distinct
pub record HasSlots (rank : Octets → ℕ) (last at inodes : ℕ) (blocks : List Octets) (slots : BTreeSet (List ℕ)) : Type 0 where
  pub found : (k : ℕ) → k < at → IsFile (entry inodes blocks k) → rank (slot_of inodes blocks k) ≡ 0
      → has slots (slot_of inodes blocks k) ≡ true
  pub only : (slot : Octets) → has slots slot ≡ true
      → (k : ℕ) × (k < at) × IsFile (entry inodes blocks k) × (slot_of inodes blocks k ≡ slot)
  pub ranks : (k : ℕ) → k < at → rank (slot_of inodes blocks k) ≤ last
  pub distinct : HasDistinctNames at inodes blocks

pub slots_none : (rank : Octets → ℕ) (inodes : ℕ) (blocks : List Octets) (slots : BTreeSet (List ℕ)) → IsEmpty slots
    → HasSlots rank 0 0 inodes blocks slots
slots_none rank inodes blocks slots empty = record {
  found = λ k low file none. absurd (omega arith);
  only = λ slot there. absurd (false≢true (sym (ap (λ (keys : List (List ℕ)). list_any (is_at (slice_cmp nat_cmp slot)) keys) empty)
      ∙ there));
  ranks = λ k low. absurd (omega arith);
  distinct = λ k l low below file file' same. absurd (omega arith);
}

-- ---- whether an entry has a name

module _ (first count inodes at : ℕ) (blocks : List Octets) (slot : Octets) (is : slot ≡ slot_of inodes blocks at) where
  pub file_from_slot : IsEntry first count (entry inodes blocks at) → 0 < get_or slot 0 0 → IsFile (entry inodes blocks at)
  file_from_slot (inl free) some =
      absurd (omega (arith, zero_at (slot_of inodes blocks at) 0 free.slot_zeros, ap (λ (s : Octets). get_or s 0 0) is))
  file_from_slot (inr file) some = file.0

  pub no_file_from_slot : get_or slot 0 0 ≡ 0 → ¬ (IsFile (entry inodes blocks at))
  no_file_from_slot none file = omega (arith, ap (λ (s : Octets). get_or s 0 0) (is ∙ file.slot_is), file.name_some)

same_slot : (inodes k l : ℕ) (blocks : List Octets) → IsFile (entry inodes blocks k) → IsFile (entry inodes blocks l)
    → name_in (slot_of inodes blocks k) ≡ name_in (slot_of inodes blocks l) → slot_of inodes blocks k ≡ slot_of inodes blocks l
same_slot inodes k l blocks file file' same = file.slot_is ∙ ap slot_octets same ∙ sym file'.slot_is

either : (b c : Bool) → c ≡ true → cond b true c ≡ true
either true c is = refl
either false c is = is

-- ---- one entry more

is_last : (k at : ℕ) → k < at + 1 → at ≤ k → k ≡ at
is_last k at low last = omega arith

module _ (rank : Octets → ℕ) (last at inodes : ℕ) (blocks : List Octets) (old : BTreeSet (List ℕ))
    (slots : HasSlots rank last at inodes blocks old) where
  -- names that differ from all before them make the names of the first entries distinct
  one_more : ((k : ℕ) → k < at → IsFile (entry inodes blocks k) → IsFile (entry inodes blocks at)
      → name_in (slot_of inodes blocks k) ≡ name_in (slot_of inodes blocks at) → ⊥) → HasDistinctNames (at + 1) inodes blocks
  one_more apart k l low low' file file' same = elim (cases_lt k at) [
    | inl less ↦ elim (cases_lt l at) [
      | inl less' ↦ slots.distinct k l less less' file file' same
      | inr past ↦ let is : l ≡ at = is_last l at low' past in absurd (
          apart k less file (subst (λ (m : ℕ). IsFile (entry inodes blocks m)) is file')
          (same ∙ ap (λ (m : ℕ). name_in (slot_of inodes blocks m)) is))
    ]
    | inr past ↦ let is : k ≡ at = is_last k at low past in elim (cases_lt l at) [
      | inl less' ↦ absurd (
          apart l less' file' (subst (λ (m : ℕ). IsFile (entry inodes blocks m)) is file)
          (sym same ∙ ap (λ (m : ℕ). name_in (slot_of inodes blocks m)) is))
      | inr past' ↦ is ∙ sym (is_last l at low' past')
    ]
  ]

  ranks_more : (new : ℕ) → last ≤ new → rank (slot_of inodes blocks at) ≤ new → (k : ℕ) → k < at + 1
      → rank (slot_of inodes blocks k) ≤ new
  ranks_more new above its k low = elim (cases_lt k at) [
    | inl less ↦ let few = slots.ranks k less in omega (arith, above, few)
    | inr past ↦ subst (λ (m : ℕ). rank (slot_of inodes blocks m) ≤ new) (sym (is_last k at low past)) its
  ]

  pub slots_same : ¬ (IsFile (entry inodes blocks at)) → rank (slot_of inodes blocks at) ≤ last
      → HasSlots rank last (at + 1) inodes blocks old
  slots_same none its = record {
    found = λ k low file. slots.found k (below k low file) file;
    only = λ slot there. let one = slots.only slot there in (one.0, omega (arith, one.1), one.2, one.3);
    ranks = ranks_more last (omega arith) its;
    distinct = one_more (λ k less file file'. absurd (none file'));
  }
    where
      below : (k : ℕ) → k < at + 1 → IsFile (entry inodes blocks k) → k < at
      below k low file = elim (cases_lt k at) [
        | inl less ↦ less
        | inr past ↦ absurd (none (subst (λ (m : ℕ). IsFile (entry inodes blocks m)) (is_last k at low past) file))
      ]

  -- a rank above the last one is of no name before
  pub slots_ranked : (new : ℕ) → new ≡ rank (slot_of inodes blocks at) → last < new → HasSlots rank new (at + 1) inodes blocks old
  slots_ranked new is above = record {
    found = λ k low file none. elim (cases_lt k at) [
      | inl less ↦ slots.found k less file none
      | inr past ↦ absurd (
          let its : rank (slot_of inodes blocks k) ≡ new =
          ap (λ (m : ℕ). rank (slot_of inodes blocks m)) (is_last k at low past) ∙ sym is in
          omega (arith, its, none, above))
    ];
    only = λ slot there. let one = slots.only slot there in (one.0, omega (arith, one.1), one.2, one.3);
    ranks = ranks_more new (omega (arith, above)) (omega (arith, is));
    distinct = one_more (λ k less file file' same.
        let its : rank (slot_of inodes blocks k) ≡ rank (slot_of inodes blocks at) =
        ap rank (same_slot inodes k at blocks file file' same) in
        let few = slots.ranks k less in omega (arith, its, few, is, above));
  }

  module _ (slot : Octets) (is : slot ≡ slot_of inodes blocks at) (file_at : IsFile (entry inodes blocks at)) where
    pub slots_twice : at < inodes → has old slot ≡ true → ¬ (HasDistinctNames inodes inodes blocks)
    slots_twice low there distinct =
        let one = slots.only slot there in
        let same = distinct one.0 at (omega (arith, one.1)) low one.2 file_at (ap name_in (one.3 ∙ is)) in
        omega (arith, one.1)

    pub slots_more : (new : BTreeSet (List ℕ)) → rank (slot_of inodes blocks at) ≡ 0 → has old slot ≡ false
        → Updates (slice_cmp nat_cmp) old new slot true → HasSlots rank last (at + 1) inodes blocks new
    slots_more new none absent updates = record {
      found = found;
      only = only;
      ranks = ranks_more last (omega arith) (omega (arith, none));
      distinct = one_more apart;
    }
      where
        found : (k : ℕ) → k < at + 1 → IsFile (entry inodes blocks k) → rank (slot_of inodes blocks k) ≡ 0
            → has new (slot_of inodes blocks k) ≡ true
        found k low file its = elim (cases_lt k at) [
          | inl less ↦ updates.0 (slot_of inodes blocks k)
              ∙ either (is_at (slice_cmp nat_cmp slot) (slot_of inodes blocks k)) (has old (slot_of inodes blocks k))
              (slots.found k less file its)
          | inr past ↦ ap (λ (m : ℕ). has new (slot_of inodes blocks m)) (is_last k at low past) ∙ ap (λ (s : Octets). has new s) (sym is)
              ∙ updates.1
        ]

        among : (s : Octets) (b : Bool) → is_at (slice_cmp nat_cmp slot) s ≡ b → cond b true (has old s) ≡ true
            → (k : ℕ) × (k < at + 1) × IsFile (entry inodes blocks k) × (slot_of inodes blocks k ≡ s)
        among s true equal there = (at, omega arith, file_at, sym is ∙ tells_apart exact_bytes slot s equal)
        among s false other there = let one = slots.only s there in (one.0, omega (arith, one.1), one.2, one.3)

        only : (s : Octets) → has new s ≡ true → (k : ℕ) × (k < at + 1) × IsFile (entry inodes blocks k) × (slot_of inodes blocks k ≡ s)
        only s there = among s (is_at (slice_cmp nat_cmp slot) s) refl (sym (updates.0 s) ∙ there)

        apart : (k : ℕ) → k < at → IsFile (entry inodes blocks k) → IsFile (entry inodes blocks at)
            → name_in (slot_of inodes blocks k) ≡ name_in (slot_of inodes blocks at) → ⊥
        apart k less file file' same =
            let one : slot_of inodes blocks k ≡ slot_of inodes blocks at = same_slot inodes k at blocks file file' same in
            false≢true (sym absent ∙ ap (λ (s : Octets). has old s) (is ∙ sym one)
            ∙ slots.found k less file (ap rank one ∙ none))
