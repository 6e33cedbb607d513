-- The places of open segments.
use Rattle.std.proofs.Common.{◌≡◌, ◌≢◌, inl, inr, ◌<◌, ◌≤◌, ℕ, zero, suc, ◌+◌, ◌-◌, cond, Bool, true, false, List, ◌∷◌, ◌++◌}
use Rattle.std.proofs.Common.{map, refl, sym, ◌∙◌, ap, subst, arith}
use Rattle.std.specs.List.{All, filter, range_with_len}
use Rattle.std.proofs.lemmas.List.Elements.{All-nil, All-cons, All-head, All-tail, filter-append}

-- tests that agree on a range
pub filter_same : (f g : ℕ → Bool) (a n : ℕ) → ((s : ℕ) → a ≤ s → s < a + n → f s ≡ g s)
    → filter f (range_with_len a n) ≡ filter g (range_with_len a n)
filter_same f g a zero same = refl
filter_same f g a (suc n) same =
    ap (λ (b : Bool). cond b (a ∷ filter f (range_with_len (a + 1) n)) (filter f (range_with_len (a + 1) n)))
    (same a (omega arith) (omega arith))
    ∙ ap (λ (l : List ℕ). cond (g a) (a ∷ l) l) (filter_same f g (a + 1) n (λ s low high. same s (omega arith) (omega arith)))

-- functions that agree on what passes
pub map_same : {B : Type 0} (f : ℕ → Bool) (h k : ℕ → B) (a n : ℕ) → ((s : ℕ) → a ≤ s → s < a + n → f s ≡ true → h s ≡ k s)
    → map h (filter f (range_with_len a n)) ≡ map k (filter f (range_with_len a n))
map_same f h k a zero same = refl
map_same {B} f h k a (suc n) same = go (map_same f h k (a + 1) n (λ s low high. same s (omega arith) (omega arith))) (f a) refl
  where
    go : map h (filter f (range_with_len (a + 1) n)) ≡ map k (filter f (range_with_len (a + 1) n)) → (b : Bool) → f a ≡ b
        → map h (cond b (a ∷ filter f (range_with_len (a + 1) n)) (filter f (range_with_len (a + 1) n)))
        ≡ map k (cond b (a ∷ filter f (range_with_len (a + 1) n)) (filter f (range_with_len (a + 1) n)))
    go rest true is = ap (λ (y : B). y ∷ map h (filter f (range_with_len (a + 1) n))) (same a (omega arith) (omega arith) is)
        ∙ ap (λ (l : List B). k a ∷ l) rest
    go rest false is = rest

-- what holds of each that passes
pub each_of : (P : ℕ → Type 0) (f : ℕ → Bool) (a n : ℕ) → ((s : ℕ) → a ≤ s → s < a + n → f s ≡ true → P s)
    → All P (filter f (range_with_len a n))
each_of P f a zero each = All-nil P
each_of P f a (suc n) each = go (each_of P f (a + 1) n (λ s low high. each s (omega arith) (omega arith))) (f a) refl
  where
    go : All P (filter f (range_with_len (a + 1) n)) → (b : Bool) → f a ≡ b
        → All P (cond b (a ∷ filter f (range_with_len (a + 1) n)) (filter f (range_with_len (a + 1) n)))
    go rest true is = All-cons P a (filter f (range_with_len (a + 1) n)) (each a (omega arith) (omega arith) is) rest
    go rest false is = rest

pub each_at : (P : ℕ → Type 0) (f : ℕ → Bool) (a n : ℕ) → All P (filter f (range_with_len a n)) → (s : ℕ) → a ≤ s → s < a + n → f s ≡ true
    → P s
each_at P f a zero all s low high is = absurd (omega arith)
each_at P f a (suc n) all s low high is =
    go (λ each other. each_at P f (a + 1) n each s (omega (arith, low, other)) (omega (arith, high)) is) (f a) refl all
  where
    go : (All P (filter f (range_with_len (a + 1) n)) → s ≢ a → P s) → (b : Bool) → f a ≡ b
        → All P (cond b (a ∷ filter f (range_with_len (a + 1) n)) (filter f (range_with_len (a + 1) n))) → P s
    go rest true was each = elim (Rattle.std.proofs.lemmas.Bool.cases_eq s a) [
      | inl same ↦ subst P (sym same) (All-head P a (filter f (range_with_len (a + 1) n)) each)
      | inr other ↦ rest (All-tail P a (filter f (range_with_len (a + 1) n)) each) other
    ]
    go rest false was each = elim (Rattle.std.proofs.lemmas.Bool.cases_eq s a) [
      | inl same ↦ absurd (let both : true ≡ false = sym is ∙ ap f same ∙ was in cc)
      | inr other ↦ rest each other
    ]

-- a range in two
pub range_split : (a m n t : ℕ) → t ≡ m + n → range_with_len a t ≡ range_with_len a m ++ range_with_len (a + m) n
range_split a zero n t is = ap (λ (k : ℕ). range_with_len a k) (let e : t ≡ n = omega (arith, is) in e)
    ∙ ap (λ (b : ℕ). range_with_len b n) (let e : a ≡ a + 0 = omega arith in e)
range_split a (suc m) n zero is = absurd (omega (arith, is))
range_split a (suc m) n (suc t) is =
    ap (λ (l : List ℕ). a ∷ l) (range_split (a + 1) m n t (omega (arith, is))
    ∙ ap (λ (b : ℕ). range_with_len (a + 1) m ++ range_with_len b n) (let e : a + 1 + m ≡ a + suc m = omega arith in e))

-- one place among the others
module _ (f : ℕ → Bool) (m k : ℕ) (within : m < k) where
  abbrev pub before : List ℕ
  before = filter f (range_with_len 0 m)

  abbrev pub behind : List ℕ
  behind = filter f (range_with_len (m + 1) (k - m - 1))

  split : filter f (range_with_len 0 k) ≡ filter f (range_with_len 0 m) ++ filter f (m ∷ range_with_len (m + 1) (k - m - 1))
  split =
      let rest : k - m ≡ suc (k - m - 1) = omega (arith, within) in
      ap (filter f) (range_split 0 m (k - m) k (omega (arith, within)) ∙ ap (λ (n : ℕ). range_with_len 0 m ++ range_with_len (0 + m) n) rest
      ∙ ap (λ (b : ℕ). range_with_len 0 m ++ range_with_len b (suc (k - m - 1))) (let e : 0 + m ≡ m = omega arith in e))
      ∙ filter-append f (range_with_len 0 m) (m ∷ range_with_len (m + 1) (k - m - 1))

  pub with_place : f m ≡ true → filter f (range_with_len 0 k) ≡ before ++ m ∷ behind
  with_place is = split ∙ ap (λ (b : Bool). before ++ cond b (m ∷ behind) behind) is

  pub without_place : f m ≡ false → filter f (range_with_len 0 k) ≡ before ++ behind
  without_place is = split ∙ ap (λ (b : Bool). before ++ cond b (m ∷ behind) behind) is
