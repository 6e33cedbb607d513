-- The articles of a range stand one after the other.
use Rattle.std.proofs.Common.{◌≡◌, ℕ, zero, suc, ◌+◌, ◌<◌, ◌≤◌, List, [], ◌∷◌, map, refl, ◌∙◌, ap, arith, Bool, true, false, cond}
use Rattle.std.proofs.Common.{length}
use Rattle.std.specs.Prelude.{◌&&◌, drop, filter, take}
use Rattle.std.specs.List.{enumerate_from, range_with_len}

-- ---- what passes a test on its number

abbrev pub picked : {X : Type 0} → (ℕ → Bool) → ℕ → List X → List (ℕ × X)
picked q k xs = filter (λ p. q p.0) (enumerate_from k xs)

none_picked : {X : Type 0} (q : ℕ → Bool) (k : ℕ) (xs : List X) → ((j : ℕ) → k ≤ j → j < k + length xs → q j ≡ false) → picked q k xs ≡ []
none_picked q k [] never = refl
none_picked q k (x ∷ xs) never =
    ap (λ b. cond b ((k, x) ∷ picked q (k + 1) xs) (picked q (k + 1) xs)) (never k (omega arith) (omega arith))
    ∙ none_picked q (k + 1) xs (λ j from to. never j (omega (arith, from)) (omega (arith, to)))

-- the first n of them
first_picked : {X : Type 0} (q : ℕ → Bool) (n k : ℕ) (xs : List X) → ((j : ℕ) → k ≤ j → j < k + n → q j ≡ true)
    → ((j : ℕ) → k + n ≤ j → j < k + length xs → q j ≡ false)
    → picked q k xs ≡ enumerate_from k (take n xs)
first_picked q zero k xs inside above = none_picked q k xs (λ j from to. above j (omega (arith, from)) to)
first_picked q (suc n) k [] inside above = refl
first_picked q (suc n) k (x ∷ xs) inside above =
    ap (λ b. cond b ((k, x) ∷ picked q (k + 1) xs) (picked q (k + 1) xs)) (inside k (omega arith) (omega arith))
    ∙ ap (λ ps. (k, x) ∷ ps) (first_picked q n (k + 1) xs (λ j from to. inside j (omega (arith, from)) (omega (arith, to)))
    (λ j from to. above j (omega (arith, from)) (omega (arith, to))))

-- n of them after the first d
pub between : {X : Type 0} (q : ℕ → Bool) (d n k : ℕ) (xs : List X) → ((j : ℕ) → k ≤ j → j < k + d → q j ≡ false)
    → ((j : ℕ) → k + d ≤ j → j < k + d + n → q j ≡ true)
    → ((j : ℕ) → k + d + n ≤ j → j < k + length xs → q j ≡ false) → picked q k xs ≡ enumerate_from (k + d) (take n (drop d xs))
between q zero n k xs below inside above =
    let start : k ≡ k + 0 = omega arith in
    first_picked q n k xs (λ j from to. inside j (omega (arith, from)) (omega (arith, to))) (λ j from to. above j (omega (arith, from)) to)
    ∙ ap (λ m. enumerate_from m (take n xs)) start
between q (suc d) zero k [] below inside above = refl
between q (suc d) (suc n) k [] below inside above = refl
between q (suc d) n k (x ∷ xs) below inside above =
    let start : k + 1 + d ≡ k + suc d = omega arith in
    ap (λ b. cond b ((k, x) ∷ picked q (k + 1) xs) (picked q (k + 1) xs)) (below k (omega arith) (omega arith))
    ∙ between q d n (k + 1) xs (λ j from to. below j (omega (arith, from)) (omega (arith, to)))
    (λ j from to. inside j (omega (arith, from)) (omega (arith, to))) (λ j from to. above j (omega (arith, from)) (omega (arith, to)))
    ∙ ap (λ m. enumerate_from m (take n (drop d xs))) start

-- two tests, one after the other
pub filter_twice : {Y : Type 0} (p q : Y → Bool) (ys : List Y) → filter p (filter q ys) ≡ filter (λ y. q y && p y) ys
filter_twice p q [] = refl
filter_twice {Y} p q (y ∷ ys) = by_first (q y) (filter_twice p q ys) where
  by_first : (b : Bool) → filter p (filter q ys) ≡ filter (λ y. q y && p y) ys
      → filter p (cond b (y ∷ filter q ys) (filter q ys)) ≡ cond (b && p y) (y ∷ filter (λ y. q y && p y) ys) (filter (λ y. q y && p y) ys)
  by_first false rest = rest
  by_first true rest = ap (λ ks. cond (p y) (y ∷ ks) ks) rest

-- the numbers alone
pub numbers_of : {X : Type 0} (a : ℕ) (xs : List X) → map (λ (p : ℕ × X). p.0) (enumerate_from a xs) ≡ range_with_len a (length xs)
numbers_of a [] = refl
numbers_of a (x ∷ xs) = ap (λ ns. a ∷ ns) (numbers_of (a + 1) xs)
