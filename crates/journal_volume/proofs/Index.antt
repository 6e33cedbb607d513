-- The places of the members of a set of numbers.
use Rattle.std.proofs.Common.{◌≡◌, ◌≢◌, inl, inr, ◌<◌, ℕ, ◌+◌, ◌-◌, ◌^◌, ◌≤◌, List, [], ◌∷◌, ◌++◌}
use Rattle.std.proofs.Common.{length, get_or, set, sym, ◌∙◌, ap, arith}
use Rattle.std.specs.List.{All, Contains}
use Rattle.std.proofs.lemmas.List.{get_or-set_same, get_or-set_other, get_or_append_left, get_or_push, get_or_past}
use Rattle.std.proofs.lemmas.List.{length_push, get_or_default}
use Rattle.std.proofs.lemmas.List.Elements.{All-from_get_or}
use Rattle.std.proofs.lemmas.Bool.{cases_eq, cases_lt}
use Rattle.model.specs.Volume.{AreDistinct}
use Rattle.fs_blocks.proofs.Distinct.{below_push, distinct_push, few_members}
use Rattle.journal_volume.specs.Numbers.{IsIndex}

module _ (bound : ℕ) (members places : List ℕ) (index : IsIndex bound members places) where
  pub members_distinct : AreDistinct members
  members_distinct i j less low same =
      let twice : i + 1 ≡ j + 1 = sym (index.back i (omega arith)) ∙ ap (λ (n : ℕ). get_or places n 0) same ∙ index.back j low in
      omega arith

  pub members_below : All (λ n. n < bound) members
  members_below = All-from_get_or (λ n. n < bound) members 0 index.below

  pub no_place : (n : ℕ) → get_or places n 0 ≡ 0 → ¬ (Contains members n)
  no_place n none (i, low, is) =
      let equal : get_or members i 0 ≡ n = get_or_default members i 0 n low ∙ is in
      omega (arith, index.back i low, ap (λ (m : ℕ). get_or places m 0) equal)

  pub past_places : (n : ℕ) → length places ≤ n → ¬ (Contains members n)
  past_places n past = no_place n (get_or_past places n 0 past)

  pub a_place : (n : ℕ) → 0 < get_or places n 0
      → (get_or places n 0 - 1 < length members) × (get_or members (get_or places n 0 - 1) 0 ≡ n)
  a_place n some = let low = index.low n in (omega arith, index.forth n some)

  module _ (n : ℕ) (there : n < bound) (other : ¬ (Contains members n)) where
    pub has_room : length members < bound
    has_room =
        omega (
          arith,
          few_members bound (members ++ n ∷ []) (below_push bound n members members_below there)
              (distinct_push members n members_distinct other),
          length_push members n,
        )

    other_than : (i : ℕ) → i < length members → get_or members i 0 ≢ n
    other_than i inside is = other (i, inside, get_or_default members i n 0 inside ∙ is)

    -- with places that reach the number
    module _ (longer : List ℕ) (same : (k : ℕ) → get_or longer k 0 ≡ get_or places k 0) (reached : n < length longer) where
      pub inserted : IsIndex bound (members ++ n ∷ []) (set longer n (length members + 1))
      inserted = record {
        few = index.few;
        below = λ i low. elim (cases_lt i (length members)) [
          | inl earlier ↦ rw (get_or_append_left members (n ∷ []) 0 i earlier) (index.below i earlier)
          | inr past ↦ let last : length members ≡ i = omega (arith, length_push members n) in rw (get_or_push members n 0 i last) there
        ];
        back = λ i low. elim (cases_lt i (length members)) [
          | inl earlier ↦
              ap (λ (m : ℕ). get_or (set longer n (length members + 1)) m 0) (get_or_append_left members (n ∷ []) 0 i earlier)
              ∙ get_or-set_other longer n (get_or members i 0) (length members + 1) 0 (other_than i earlier)
              ∙ same (get_or members i 0) ∙ index.back i earlier
          | inr past ↦
              let last : length members ≡ i = omega (arith, length_push members n) in
              ap (λ (m : ℕ). get_or (set longer n (length members + 1)) m 0) (get_or_push members n 0 i last)
              ∙ get_or-set_same longer n (length members + 1) 0 reached
              ∙ ap (λ (j : ℕ). j + 1) last
        ];
        low = λ k. elim (cases_eq k n) [
          | inl is ↦ omega (
            arith,
            length_push members n,
            ap (λ (j : ℕ). get_or (set longer n (length members + 1)) j 0) is,
            get_or-set_same longer n (length members + 1) 0 reached,
          )
          | inr apart ↦ omega (
            arith,
            length_push members n,
            get_or-set_other longer n k (length members + 1) 0 apart,
            same k,
            index.low k,
          )
        ];
        forth = λ k some. elim (cases_eq k n) [
          | inl is ↦
              let placed : get_or (set longer n (length members + 1)) k 0 ≡ length members + 1 =
              ap (λ (j : ℕ). get_or (set longer n (length members + 1)) j 0) is
              ∙ get_or-set_same longer n (length members + 1) 0 reached in
              let last : length members ≡ get_or (set longer n (length members + 1)) k 0 - 1 = omega arith in
              get_or_push members n 0 (get_or (set longer n (length members + 1)) k 0 - 1) last ∙ sym is
          | inr apart ↦
              let placed : get_or (set longer n (length members + 1)) k 0 ≡ get_or places k 0 =
              get_or-set_other longer n k (length members + 1) 0 apart ∙ same k in
              let low = index.low k in
              let before : get_or (set longer n (length members + 1)) k 0 - 1 < length members = omega arith in
              get_or_append_left members (n ∷ []) 0 (get_or (set longer n (length members + 1)) k 0 - 1) before
              ∙ ap (λ (p : ℕ). get_or members (p - 1) 0) placed ∙ index.forth k (omega arith)
        ];
      }

-- an index of none
pub index_of_none : (bound : ℕ) (places : List ℕ) → bound < 2 ^ 32 → ((k : ℕ) → get_or places k 0 ≡ 0) → IsIndex bound [] places
index_of_none bound places few none = record {
  few = few;
  below = λ i low. absurd (omega arith);
  back = λ i low. absurd (omega arith);
  low = λ k. omega (arith, none k);
  forth = λ k some. absurd (omega (arith, none k));
}
