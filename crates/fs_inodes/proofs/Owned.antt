-- The blocks that an entry owns, one by one.
use Rattle.std.proofs.Common.{◌≡◌, ◌≢◌, ◌⊎◌, inl, inr, ◌<◌, ℕ, zero, suc, cond, Bool, List, [], ◌∷◌, ◌++◌}
use Rattle.std.proofs.Common.{get_or, map, refl, sym, ◌∙◌, ap, subst, arith}
use Rattle.std.specs.List.{Contains, range_with_len}
use Rattle.std.proofs.lemmas.List.Elements.{Contains-append_cases, Contains-append_left, Contains-append_right}
use Rattle.std.proofs.lemmas.List.FromFn.{length-map-range_with_len, get_or-map-range_with_len}
use Rattle.std.proofs.lemmas.Bool.{cases_eq, eq-eqb, ne_eqb}
use Rattle.model.specs.Volume.{AreDistinct}
use Rattle.model.specs.Files.{FileEntry, double_blocks, double_pointer, indirect_for, indirect_pointer, pointer}
use Rattle.fs_inodes.specs.Growing.{tables_to}
use Rattle.model.proofs.Distinct.{distinct_append, distinct_apart, distinct_left, distinct_none, distinct_one, distinct_right}
use Rattle.fs_layout.proofs.Entries.{in_range}

-- ---- numbers of a range

module _ (f : ℕ → ℕ) (n : ℕ) where
  pub from_range : (b : ℕ) → Contains (map f (range_with_len 0 n)) b → (i : ℕ) × (i < n) × (f i ≡ b)
  from_range b has =
      let low : has.0 < n = omega (arith, has.1, length-map-range_with_len f 0 n) in
      (has.0, low, sym (get_or-map-range_with_len f 0 n has.0 has.0 b low (omega arith)) ∙ has.2)

  at : (i : ℕ) → i < n → get_or (map f (range_with_len 0 n)) i 0 ≡ f i
  at i low = get_or-map-range_with_len f 0 n i i 0 low (omega arith)

  pub range_distinct : ((i j : ℕ) → i < j → j < n → f i ≢ f j) → AreDistinct (map f (range_with_len 0 n))
  range_distinct apart i j less inside same =
      let low : j < n = omega (arith, inside, length-map-range_with_len f 0 n) in
      apart i j less low (sym (at i (omega (arith, less, low))) ∙ same ∙ at j low)

  pub range_differ : AreDistinct (map f (range_with_len 0 n)) → (i j : ℕ) → i < j → j < n → f i ≢ f j
  range_differ distinct i j less low same =
      distinct i j less (omega (arith, low, length-map-range_with_len f 0 n)) (at i (omega (arith, less, low)) ∙ same ∙ sym (at j low))

-- ---- what an entry owns if its octets take this many blocks

abbrev pub owned_to : FileEntry → ℕ → List ℕ
owned_to e count = double_blocks e ++ (tables_to e (indirect_for count) ++ map (λ i. pointer e i) (range_with_len 0 count))

module _ (e : FileEntry) (count : ℕ) where
  abbrev pointers : List ℕ
  pointers = map (λ i. pointer e i) (range_with_len 0 count)

  abbrev tables : List ℕ
  tables = tables_to e (indirect_for count)

  one_double : double_pointer e ≢ 0 → double_blocks e ≡ double_pointer e ∷ []
  one_double some = ap (λ (b : Bool). cond b [] (double_pointer e ∷ [])) (ne_eqb (double_pointer e) 0 some)

  first_is : (n b : ℕ) → Contains (n ∷ []) b → n ≡ b
  first_is n b (zero, low, is) = is
  first_is n b (suc k, low, is) = absurd (omega arith)

  in_double : double_pointer e ≢ 0 → Contains (double_blocks e) (double_pointer e)
  in_double some = subst (λ (l : List ℕ). Contains l (double_pointer e)) (sym (one_double some)) (0, omega arith, refl)

  from_double : (b : ℕ) → Contains (double_blocks e) b → (double_pointer e ≢ 0) × (double_pointer e ≡ b)
  from_double b has = elim (cases_eq (double_pointer e) 0) [
    | inl none ↦
        absurd (let nothing = subst (λ (l : List ℕ). Contains l b)
        (ap (λ (t : Bool). cond t [] (double_pointer e ∷ [])) (eq-eqb (double_pointer e) 0 none)) has in omega (arith, nothing.1))
    | inr some ↦ (some, first_is (double_pointer e) b (subst (λ (l : List ℕ). Contains l b) (one_double some) has))
  ]

  pub has_pointer : (i : ℕ) → i < count → Contains (owned_to e count) (pointer e i)
  has_pointer i low = Contains-append_right (double_blocks e) (tables ++ pointers) (pointer e i)
      (Contains-append_right tables pointers (pointer e i) (in_range (λ i. pointer e i) count i low))

  pub has_table : (p : ℕ) → p < indirect_for count → Contains (owned_to e count) (indirect_pointer e p)
  has_table p low =
      Contains-append_right (double_blocks e) (tables ++ pointers) (indirect_pointer e p)
      (Contains-append_left tables pointers (indirect_pointer e p) (in_range (λ p. indirect_pointer e p) (indirect_for count) p low))

  pub has_double : double_pointer e ≢ 0 → Contains (owned_to e count) (double_pointer e)
  has_double some = Contains-append_left (double_blocks e) (tables ++ pointers) (double_pointer e) (in_double some)

  -- the double-indirect block, a block of pointers, or one of its octets' blocks
  pub owned_cases : (b : ℕ) → Contains (owned_to e count) b
      → ((double_pointer e ≢ 0) × (double_pointer e ≡ b))
      ⊎ (((p : ℕ) × (p < indirect_for count) × (indirect_pointer e p ≡ b)) ⊎ ((i : ℕ) × (i < count) × (pointer e i ≡ b)))
  owned_cases b has = elim (Contains-append_cases (double_blocks e) (tables ++ pointers) b has) [
    | inl double ↦ inl (from_double b double)
    | inr rest ↦ inr (elim (Contains-append_cases tables pointers b rest) [
      | inl table ↦ inl (from_range (λ p. indirect_pointer e p) (indirect_for count) b table)
      | inr there ↦ inr (from_range (λ i. pointer e i) count b there)
    ])
  ]

  pub distinct_from : ((p q : ℕ) → p < q → q < indirect_for count → indirect_pointer e p ≢ indirect_pointer e q)
      → ((i j : ℕ) → i < j → j < count → pointer e i ≢ pointer e j)
      → ((p i : ℕ) → p < indirect_for count → i < count → indirect_pointer e p ≢ pointer e i)
      → ((p : ℕ) → double_pointer e ≢ 0 → p < indirect_for count → double_pointer e ≢ indirect_pointer e p)
      → ((i : ℕ) → double_pointer e ≢ 0 → i < count → double_pointer e ≢ pointer e i)
      → AreDistinct (owned_to e count)
  distinct_from tables_apart pointers_apart table_pointer double_table double_pointer_apart =
      distinct_append (double_blocks e) (tables ++ pointers) one
      (distinct_append tables pointers (range_distinct (λ p. indirect_pointer e p) (indirect_for count) tables_apart)
      (range_distinct (λ i. pointer e i) count pointers_apart) (λ b table there.
      let p = from_range (λ p. indirect_pointer e p) (indirect_for count) b table in
      let i = from_range (λ i. pointer e i) count b there in
      table_pointer p.0 i.0 p.1 i.1 (p.2 ∙ sym i.2)))
      (λ b double rest.
      let d = from_double b double in
      elim (Contains-append_cases tables pointers b rest) [
        | inl table ↦ let p = from_range (λ p. indirect_pointer e p) (indirect_for count) b table in
            double_table p.0 d.0 p.1 (d.1 ∙ sym p.2)
        | inr there ↦ let i = from_range (λ i. pointer e i) count b there in double_pointer_apart i.0 d.0 i.1 (d.1 ∙ sym i.2)
      ])
    where
      one : AreDistinct (double_blocks e)
      one = elim (cases_eq (double_pointer e) 0) [
        | inl none ↦ subst AreDistinct (sym (ap (λ (t : Bool). cond t [] (double_pointer e ∷ [])) (eq-eqb (double_pointer e) 0 none)))
            distinct_none
        | inr some ↦ subst AreDistinct (sym (one_double some)) (distinct_one (double_pointer e))
      ]

  module _ (distinct : AreDistinct (owned_to e count)) where
    rest_distinct : AreDistinct (tables ++ pointers)
    rest_distinct = distinct_right (double_blocks e) (tables ++ pointers) distinct

    pub pointers_differ : (i j : ℕ) → i < j → j < count → pointer e i ≢ pointer e j
    pointers_differ = range_differ (λ i. pointer e i) count (distinct_right tables pointers rest_distinct)

    pub tables_differ : (p q : ℕ) → p < q → q < indirect_for count → indirect_pointer e p ≢ indirect_pointer e q
    tables_differ = range_differ (λ p. indirect_pointer e p) (indirect_for count) (distinct_left tables pointers rest_distinct)

    pub table_not_pointer : (p i : ℕ) → p < indirect_for count → i < count → indirect_pointer e p ≢ pointer e i
    table_not_pointer p i low_p low_i same =
        distinct_apart tables pointers rest_distinct (pointer e i)
        (subst (λ (n : ℕ). Contains tables n) same (in_range (λ p. indirect_pointer e p) (indirect_for count) p low_p))
        (in_range (λ i. pointer e i) count i low_i)

    pub double_not_table : (p : ℕ) → double_pointer e ≢ 0 → p < indirect_for count → double_pointer e ≢ indirect_pointer e p
    double_not_table p some low same =
        distinct_apart (double_blocks e) (tables ++ pointers) distinct (indirect_pointer e p)
        (subst (λ (n : ℕ). Contains (double_blocks e) n) same (in_double some))
        (Contains-append_left tables pointers (indirect_pointer e p) (in_range (λ p. indirect_pointer e p) (indirect_for count) p low))

    pub double_not_pointer : (i : ℕ) → double_pointer e ≢ 0 → i < count → double_pointer e ≢ pointer e i
    double_not_pointer i some low same =
        distinct_apart (double_blocks e) (tables ++ pointers) distinct (pointer e i)
        (subst (λ (n : ℕ). Contains (double_blocks e) n) same (in_double some))
        (Contains-append_right tables pointers (pointer e i) (in_range (λ i. pointer e i) count i low))
