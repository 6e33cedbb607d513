-- The flags of the parts that are members of a set.
use Rattle.std.proofs.Common.{◌≡◌, ◌⊎◌, inl, inr, ◌<◌, ℕ, ◌+◌, ◌-◌, ◌*◌, ◌/◌, ◌%◌, ◌^◌, Bool, true, false, IsTrue, List, [], ◌∷◌, ◌++◌}
use Rattle.std.proofs.Common.{length}
use Rattle.std.proofs.Common.{get_or, set, replicate, refl, sym, ◌∙◌, ap, subst, arith, length-set, length-append}
use Rattle.std.specs.List.{Contains}
use Rattle.std.proofs.lemmas.Bool.{cases_eq, cases_lt, false≢true}
use Rattle.std.proofs.lemmas.List.{length_push, length-replicate, get_or_append_left, get_or-append_right, get_or_push, get_or-replicate}
use Rattle.std.proofs.lemmas.List.{get_or-set_same, get_or-set_other, get_or_default}
use Rattle.fs_blocks.proofs.Distinct.{below_push, distinct_push, few_members}
use Rattle.journal_volume.specs.Numbers.{Numbers, IsNumbers}
use Rattle.journal_volume.specs.Parts.{IsPartSet}

-- of what was inserted
pub pushed : (ns : List ℕ) (n k : ℕ) → Contains (ns ++ n ∷ []) k → Contains ns k ⊎ (k ≡ n)
pushed ns n k (i, low, is) = elim (cases_lt i (length ns)) [
  | inl inside ↦ inl (i, inside, sym (get_or_append_left ns (n ∷ []) k i inside) ∙ is)
  | inr past ↦ inr (sym is ∙ get_or_push ns n k i (omega (arith, length_push ns n)))
]

pub push_old : (ns : List ℕ) (n k : ℕ) → Contains ns k → Contains (ns ++ n ∷ []) k
push_old ns n k (i, low, is) = (i, omega (arith, length_push ns n), get_or_append_left ns (n ∷ []) k i low ∙ is)

pub push_new : (ns : List ℕ) (n : ℕ) → Contains (ns ++ n ∷ []) n
push_new ns n = (length ns, omega (arith, length_push ns n), get_or_push ns n n (length ns) refl)

pub none_in : (k : ℕ) → ¬ (Contains [] k)
none_in k (i, low, is) = absurd (omega arith)

-- no member
pub empty_is : (blocks : Numbers) → blocks.members ≡ [] → IsNumbers blocks → blocks.bound < 2 ^ 32 → IsPartSet blocks [] []
empty_is blocks none valid few = record {
  few = few;
  blocks_numbers = valid;
  size = omega (arith, ap length none);
  numbers = record { below = λ k d low. absurd (omega arith); distinct = λ i j less low. absurd (omega arith) };
  forth = λ p c. absurd (none_in p c);
  back = λ i j low inside flag. absurd (omega (arith, ap length none));
}

module _ (blocks : Numbers) (flags : List Bool) (members : List ℕ) (v : IsPartSet blocks flags members) where
  pub few_blocks : length blocks.members < 2 ^ 32
  few_blocks = omega (
    arith,
    v.few,
    few_members blocks.bound blocks.members v.blocks_numbers.below v.blocks_numbers.distinct,
  )

  -- a part whose flag is set
  pub flag_set : (i p : ℕ) → i < length blocks.members → get_or blocks.members i 0 ≡ p / 16
      → IsTrue (get_or flags (16 * i + p % 16) false) → Contains members p
  flag_set i p low block flag =
      let is : 16 * get_or blocks.members i 0 + p % 16 ≡ p = omega arith in
      subst (λ (m : ℕ). Contains members m) is (v.back i (p % 16) low (omega arith) flag)

  -- one whose flag is not
  pub flag_clear : (i p : ℕ) → i < length blocks.members → get_or blocks.members i 0 ≡ p / 16
      → get_or flags (16 * i + p % 16) false ≡ false → ¬ (Contains members p)
  flag_clear i p low block flag c =
      let f = v.forth p c in
      elim (cases_lt i f.place) [
        | inl less ↦ absurd (v.blocks_numbers.distinct i f.place less f.low (block ∙ sym f.block))
        | inr not_less ↦ elim (cases_lt f.place i) [
          | inl more ↦ absurd (v.blocks_numbers.distinct f.place i more low (f.block ∙ sym block))
          | inr not_more ↦
              let same : f.place ≡ i = omega arith in
              false≢true (sym flag ∙ sym (ap (λ (k : ℕ). get_or flags (16 * k + p % 16) false) same) ∙ f.flag)
        ]
      ]

  -- one whose block has no flags
  pub no_flags : (p : ℕ) → ¬ (Contains blocks.members (p / 16)) → ¬ (Contains members p)
  no_flags p other c =
      let f = v.forth p c in
      other (f.place, f.low, get_or_default blocks.members f.place (p / 16) 0 f.low ∙ f.block)

  -- a block with flags that are not set
  pub block_more : (n : ℕ) (more : Numbers) → ¬ (Contains blocks.members n)
      → more ≡ record { bound = blocks.bound; members = blocks.members ++ n ∷ [] } → IsNumbers more
      → IsPartSet more (flags ++ replicate 16 false) members
  block_more n more other is valid = record {
    few = omega (arith, v.few, ap (λ (s : Numbers). s.bound) is);
    blocks_numbers = valid;
    size = omega (arith, many, v.size, length-append flags (replicate 16 false), length-replicate {A = Bool} 16 false);
    numbers = subst (λ (b : ℕ). IsNumbers (record { bound = 16 * b; members = members })) (sym (ap (λ (s : Numbers). s.bound) is))
        v.numbers;
    forth = λ p c.
        let f = v.forth p c in
        record {
          place = f.place;
          low = omega (arith, many, f.low);
          block = at f.place f.low ∙ f.block;
          flag = get_or_append_left flags (replicate 16 false) false (16 * f.place + p % 16) (omega (arith, v.size, f.low)) ∙ f.flag;
        };
    back = λ i j low inside flag. elim (cases_lt i (length blocks.members)) [
      | inl before ↦
          subst (λ (m : ℕ). Contains members (16 * m + j)) (sym (at i before))
          (v.back i j before inside
          (sym (get_or_append_left flags (replicate 16 false) false (16 * i + j) (omega (arith, v.size))) ∙ flag))
      | inr last ↦
          let end : 16 * i + j ≡ length flags + j = omega (arith, many, v.size) in
          let none : get_or (flags ++ replicate 16 false) (16 * i + j) false ≡ false =
          ap (λ (k : ℕ). get_or (flags ++ replicate 16 false) k false) end ∙ clear j inside in
          absurd (false≢true (sym none ∙ flag))
    ];
  }
    where
      members_are : more.members ≡ blocks.members ++ n ∷ []
      members_are = ap (λ (s : Numbers). s.members) is

      many : length more.members ≡ length blocks.members + 1
      many = ap length members_are ∙ length_push blocks.members n

      at : (i : ℕ) → i < length blocks.members → get_or more.members i 0 ≡ get_or blocks.members i 0
      at i low = ap (λ (l : List ℕ). get_or l i 0) members_are ∙ get_or_append_left blocks.members (n ∷ []) 0 i low

      clear : (j : ℕ) → j < 16 → get_or (flags ++ replicate 16 false) (length flags + j) false ≡ false
      clear j inside =
          let place : length flags + j - length flags ≡ j = omega arith in
          get_or-append_right flags (replicate 16 false) (length flags) (length flags + j) false refl (omega arith)
          ∙ ap (λ (k : ℕ). get_or (replicate 16 false) k false) place
          ∙ get_or-replicate 16 j false false inside

  -- a member more
  pub member_more : (i p : ℕ) → i < length blocks.members → get_or blocks.members i 0 ≡ p / 16 → p < 16 * blocks.bound
      → ¬ (Contains members p) → IsPartSet blocks (set flags (16 * i + p % 16) true) (members ++ p ∷ [])
  member_more i p low block below other = record {
    few = v.few;
    blocks_numbers = v.blocks_numbers;
    size = length-set flags (16 * i + p % 16) true ∙ v.size;
    numbers = record {
      below = below_push (16 * blocks.bound) p members v.numbers.below below;
      distinct = distinct_push members p v.numbers.distinct other;
    };
    forth = λ q c. elim (pushed members p q c) [
      | inl was ↦
          let f = v.forth q was in
          record { place = f.place; low = f.low; block = f.block; flag = stays (16 * f.place + q % 16) f.flag }
      | inr is ↦ record {
        place = i;
        low = low;
        block = block ∙ ap (λ (k : ℕ). k / 16) (sym is);
        flag = ap (λ (k : ℕ). get_or (set flags (16 * i + p % 16) true) (16 * i + k % 16) false) is ∙ set_now;
      }
    ];
    back = λ k j inside small flag. elim (cases_eq (16 * k + j) (16 * i + p % 16)) [
      | inl same ↦
          let place : k ≡ i = omega arith in
          let is : p ≡ 16 * get_or blocks.members i 0 + j = omega arith in
          subst (λ (m : ℕ). Contains (members ++ p ∷ []) m)
          (is ∙ ap (λ (m : ℕ). 16 * get_or blocks.members m 0 + j) (sym place)) (push_new members p)
      | inr apart ↦ push_old members p (16 * get_or blocks.members k 0 + j)
          (v.back k j inside small (sym (get_or-set_other flags (16 * i + p % 16) (16 * k + j) true false apart) ∙ flag))
    ];
  }
    where
      set_now : get_or (set flags (16 * i + p % 16) true) (16 * i + p % 16) false ≡ true
      set_now = get_or-set_same flags (16 * i + p % 16) true false (omega (arith, v.size))

      stays : (k : ℕ) → get_or flags k false ≡ true → get_or (set flags (16 * i + p % 16) true) k false ≡ true
      stays k was = elim (cases_eq k (16 * i + p % 16)) [
        | inl same ↦ ap (λ (m : ℕ). get_or (set flags (16 * i + p % 16) true) m false) same ∙ set_now
        | inr apart ↦ get_or-set_other flags (16 * i + p % 16) k true false apart ∙ was
      ]
