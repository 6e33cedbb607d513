-- Lists of numbers with no two equal, one after the other.
use Rattle.std.proofs.Common.{◌≢◌, inl, inr, ℕ, zero, suc, List, [], ◌∷◌, ◌++◌, refl, sym, ◌∙◌, subst, arith}
use Rattle.std.specs.List.{Contains}
use Rattle.std.proofs.lemmas.List.{get_or_default}
use Rattle.std.proofs.lemmas.List.Elements.{Contains-append_left, Contains-append_right, Contains-append_cases}
use Rattle.model.specs.Volume.{AreDistinct}

pub distinct_tail : (x : ℕ) (xs : List ℕ) → AreDistinct (x ∷ xs) → AreDistinct xs
distinct_tail x xs distinct i j less low = distinct (suc i) (suc j) (omega arith) (omega arith)

pub distinct_head : (x : ℕ) (xs : List ℕ) → AreDistinct (x ∷ xs) → ¬ (Contains xs x)
distinct_head x xs distinct (k, low, is) = distinct 0 (suc k) (omega arith) (omega arith) (sym is ∙ get_or_default xs k x 0 low)

pub distinct_cons : (x : ℕ) (xs : List ℕ) → ¬ (Contains xs x) → AreDistinct xs → AreDistinct (x ∷ xs)
distinct_cons x xs other distinct zero zero less low = absurd (omega arith)
distinct_cons x xs other distinct zero (suc j) less low = λ same. other (j, omega arith, get_or_default xs j x 0 (omega arith) ∙ sym same)
distinct_cons x xs other distinct (suc i) zero less low = absurd (omega arith)
distinct_cons x xs other distinct (suc i) (suc j) less low = distinct i j (omega arith) (omega arith)

-- a number that is neither the first nor among the others
pub absent_cons : (x y : ℕ) (xs : List ℕ) → x ≢ y → ¬ (Contains xs x) → ¬ (Contains (y ∷ xs) x)
absent_cons x y xs other none (zero, low, is) = other (sym is)
absent_cons x y xs other none (suc k, low, is) = none (k, omega arith, is)

pub distinct_none : AreDistinct []
distinct_none i j less low = absurd (omega arith)

pub distinct_one : (x : ℕ) → AreDistinct (x ∷ [])
distinct_one x i j less low = absurd (omega arith)

pub distinct_append : (xs ys : List ℕ) → AreDistinct xs → AreDistinct ys → ((b : ℕ) → Contains xs b → ¬ (Contains ys b))
    → AreDistinct (xs ++ ys)
distinct_append [] ys first second apart = second
distinct_append (x ∷ xs) ys first second apart =
    distinct_cons x (xs ++ ys)
    (λ has. elim (Contains-append_cases xs ys x has) [
      | inl early ↦ distinct_head x xs first early
      | inr late ↦ apart x (0, omega arith, refl) late
    ])
    (distinct_append xs ys (distinct_tail x xs first) second (λ b has. apart b (Contains-append_right (x ∷ []) xs b has)))

pub distinct_left : (xs ys : List ℕ) → AreDistinct (xs ++ ys) → AreDistinct xs
distinct_left [] ys all = distinct_none
distinct_left (x ∷ xs) ys all =
    distinct_cons x xs (λ has. distinct_head x (xs ++ ys) all (Contains-append_left xs ys x has))
    (distinct_left xs ys (distinct_tail x (xs ++ ys) all))

pub distinct_right : (xs ys : List ℕ) → AreDistinct (xs ++ ys) → AreDistinct ys
distinct_right [] ys all = all
distinct_right (x ∷ xs) ys all = distinct_right xs ys (distinct_tail x (xs ++ ys) all)

pub distinct_apart : (xs ys : List ℕ) → AreDistinct (xs ++ ys) → (b : ℕ) → Contains xs b → ¬ (Contains ys b)
distinct_apart [] ys all b has there = absurd (omega (arith, has.1))
distinct_apart (x ∷ xs) ys all b (zero, low, is) there =
    distinct_head x (xs ++ ys) all (subst (λ (n : ℕ). Contains (xs ++ ys) n) (sym is) (Contains-append_right xs ys b there))
distinct_apart (x ∷ xs) ys all b (suc k, low, is) there = distinct_apart xs ys (distinct_tail x (xs ++ ys) all) b (k, omega arith, is) there

pub distinct_insert : (n : ℕ) (ps qs : List ℕ) → AreDistinct (ps ++ qs) → ¬ (Contains ps n) → ¬ (Contains qs n)
    → AreDistinct (ps ++ n ∷ qs)
distinct_insert n ps qs all none also =
    distinct_append ps (n ∷ qs) (distinct_left ps qs all) (distinct_cons n qs also (distinct_right ps qs all)) apart
  where
    apart : (b : ℕ) → Contains ps b → ¬ (Contains (n ∷ qs) b)
    apart b here (zero, low, is) = none (subst (Contains ps) (sym is) here)
    apart b here (suc k, low, is) = distinct_apart ps qs all b here (k, omega arith, is)

pub distinct_remove : (n : ℕ) (ps qs : List ℕ) → AreDistinct (ps ++ n ∷ qs) → AreDistinct (ps ++ qs)
distinct_remove n ps qs all =
    distinct_append ps qs (distinct_left ps (n ∷ qs) all) (distinct_tail n qs (distinct_right ps (n ∷ qs) all))
    (λ b here there. distinct_apart ps (n ∷ qs) all b here (Contains-append_right (n ∷ []) qs b there))
