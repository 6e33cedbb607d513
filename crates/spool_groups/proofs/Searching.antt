-- Elements found by binary search, and where lines begin.
use Rattle.std.proofs.Common.{◌≡◌, ℕ, zero, suc, ◌-◌, ◌<◌, ◌≤◌, List, [], ◌∷◌, length, map, get_or, refl, sym, ◌∙◌, ap, subst, arith}
use Rattle.std.proofs.Common.{Bool, true, false, cond, inl, inr}
use Rattle.std.specs.Prelude.{Some, None, find, filter, nat_le, nat_lt}
use Rattle.std.proofs.lemmas.Bool.{cases_lt, leb-true, leb-false, le-leb, lt-leb, ltb-true}
use Rattle.std.proofs.lemmas.List.{length-map, get_or-map}
use Rattle.model.specs.Indexed.{line_start}
use Rattle.model.specs.Spool.{NewsExpiry}
use Rattle.spool_groups.specs.Finding.{Rise}

-- ---- the first that passes

pub first_at : {X : Type 0} (p : X → Bool) (xs : List X) (k : ℕ) (d : X) → k < length xs → p (get_or xs k d) ≡ true
    → ((j : ℕ) → j < k → p (get_or xs j d) ≡ false) → find p xs ≡ Some (get_or xs k d)
first_at p [] k d low at before = absurd (omega arith)
first_at p (x ∷ xs) zero d low at before = ap (λ (b : Bool). cond b (Some x) (find p xs)) at
first_at p (x ∷ xs) (suc k) d low at before =
    ap (λ (b : Bool). cond b (Some x) (find p xs)) (before 0 (omega arith))
    ∙ first_at p xs k d (omega arith) at (λ j small. before (suc j) (omega arith))

pub none_first : {X : Type 0} (p : X → Bool) (xs : List X) (d : X)
    → ((j : ℕ) → j < length xs → p (get_or xs j d) ≡ false) → find p xs ≡ None
none_first p [] d apart = refl
none_first p (x ∷ xs) d apart = ap (λ (b : Bool). cond b (Some x) (find p xs)) (apart 0 (omega arith))
    ∙ none_first p xs d (λ j small. apart (suc j) (omega arith))

-- ---- by binary search

pub rising_parts : {X : Type 0} (number : X → ℕ) (xs : List X) → Rise (map number xs) → (i j : ℕ) (d : X) → i ≤ j → j < length xs
    → number (get_or xs i d) ≤ number (get_or xs j d)
rising_parts number xs rise i j d order low = elim (cases_lt i j) [
  | inl less ↦
      let first : get_or (map number xs) i 0 ≡ number (get_or xs i d) = get_or-map number xs i d 0 (omega arith) in
      let second : get_or (map number xs) j 0 ≡ number (get_or xs j d) = get_or-map number xs j d 0 low in
      omega (arith, rise i j less (omega (arith, length-map xs number)), first, second)
  | inr more ↦
      let same : i ≡ j = omega arith in
      subst (λ (k : ℕ). number (get_or xs i d) ≤ number (get_or xs k d)) same (omega arith)
]

pub counted : {X : Type 0} (p : X → Bool) (xs : List X) (i : ℕ) → i ≤ length xs → ((k : ℕ) (d : X) → k < i → p (get_or xs k d) ≡ true)
    → ((k : ℕ) (d : X) → i ≤ k → k < length xs → p (get_or xs k d) ≡ false) → i ≡ length (filter p xs)
counted p [] i low front back = omega arith
counted p (x ∷ xs) zero low front back =
    counted p xs 0 (omega arith) (λ k d less. absurd (omega arith)) (λ k d order less. back (suc k) d (omega arith) (omega arith))
    ∙ ap (λ (b : Bool). length (cond b (x ∷ filter p xs) (filter p xs))) (sym (back 0 x (omega arith) (omega arith)))
counted p (x ∷ xs) (suc i) low front back =
    ap suc (counted p xs i (omega arith) (λ k d less. front (suc k) d (omega arith))
    (λ k d order less. back (suc k) d (omega arith) (omega arith)))
    ∙ ap (λ (b : Bool). length (cond b (x ∷ filter p xs) (filter p xs))) (sym (front 0 x (omega arith)))

pub filter_mapped : {X : Type 0} (number : X → ℕ) (p : ℕ → Bool) (xs : List X)
    → length (filter p (map number xs)) ≡ length (filter (λ x. p (number x)) xs)
filter_mapped number p [] = refl
filter_mapped {X} number p (x ∷ xs) = by_test (p (number x)) (filter_mapped number p xs) where
  by_test : (b : Bool) → length (filter p (map number xs)) ≡ length (filter (λ (y : X). p (number y)) xs)
      → length (cond b (number x ∷ filter p (map number xs)) (filter p (map number xs)))
      ≡ length (cond b (x ∷ filter (λ (y : X). p (number y)) xs) (filter (λ (y : X). p (number y)) xs))
  by_test true rest = ap suc rest
  by_test false rest = rest

pub upto_parts : {X : Type 0} (number : X → ℕ) (n : ℕ) (xs : List X) → Rise (map number xs) → (i j : ℕ) (d : X) → i ≤ j → j < length xs
    → nat_le (number (get_or xs j d)) n ≡ true → nat_le (number (get_or xs i d)) n ≡ true
upto_parts number n xs rise i j d order low at =
    le-leb (number (get_or xs i d)) n (omega (arith, rising_parts number xs rise i j d order low, leb-true (number (get_or xs j d)) n at))

pub below_parts : {X : Type 0} (number : X → ℕ) (n : ℕ) (xs : List X) → Rise (map number xs) → (i j : ℕ) (d : X) → i ≤ j → j < length xs
    → nat_lt (number (get_or xs j d)) n ≡ true → nat_lt (number (get_or xs i d)) n ≡ true
below_parts number n xs rise i j d order low at =
    le-leb (suc (number (get_or xs i d))) n
    (omega (arith, rising_parts number xs rise i j d order low, ltb-true (number (get_or xs j d)) n at))

-- the first that reaches the number
pub first_reaching : (E : List NewsExpiry) (n k : ℕ) (d : NewsExpiry) → k < length E → nat_lt (get_or E k d).number n ≡ false
    → ((j : ℕ) → j < k → nat_lt (get_or E j d).number n ≡ true) → find (λ (e : NewsExpiry). nat_le n e.number) E ≡ Some (get_or E k d)
first_reaching E n k d low at before =
    first_at (λ (e : NewsExpiry). nat_le n e.number) E k d low
    (le-leb n (get_or E k d).number (omega (arith, leb-false (suc (get_or E k d).number) n at)))
    (λ j small. lt-leb n (get_or E j d).number (ltb-true (get_or E j d).number n (before j small)))

pub none_reaching : (E : List NewsExpiry) (n : ℕ) → ((j : ℕ) (d : NewsExpiry) → j < length E → nat_lt (get_or E j d).number n ≡ true)
    → find (λ (e : NewsExpiry). nat_le n e.number) E ≡ None
none_reaching [] n before = refl
none_reaching (e ∷ E) n before =
    none_first (λ (x : NewsExpiry). nat_le n x.number) (e ∷ E) e
    (λ j low. lt-leb n (get_or (e ∷ E) j e).number (ltb-true (get_or (e ∷ E) j e).number n (before j e low)))

-- an element of a mapped list
pub mapped_get : {X Y : Type 0} (f : X → Y) (P : Y → Type 0) (xs : List X) (j : ℕ) (d : Y) → j < length (map f xs)
    → (j < length xs → (e : X) → P (f (get_or xs j e))) → P (get_or (map f xs) j d)
mapped_get f P [] j d low all = absurd (omega arith)
mapped_get f P (x ∷ xs) zero d low all = all (omega arith) x
mapped_get f P (x ∷ xs) (suc j) d low all = mapped_get f P xs j d (omega arith) (λ small e. all (omega arith) e)

-- where a line after the first begins
pub start_at : (ends : List ℕ) (n : ℕ) → (n ≡ 0 → ⊥) → line_start ends n ≡ get_or ends (n - 1) 0
start_at ends zero some = absurd (some refl)
start_at ends (suc k) some = let place : k ≡ suc k - 1 = omega arith in ap (λ (j : ℕ). get_or ends j 0) place
