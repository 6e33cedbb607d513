-- The digits of serials.
use Rattle.std.proofs.Common.{◌≡◌, ℕ, zero, suc, ◌+◌, ◌*◌, ◌-◌, ◌/◌, ◌%◌, ◌^◌, ◌<◌, [], ◌∷◌, ◌++◌, length, drop, set, sym, ◌∙◌, ap, arith}
use Rattle.std.proofs.lemmas.List.{drop-set}
use Rattle.std.proofs.Math.Nat.{div-div-eq-div-mul, div-one, pow-succ'}
use Rattle.model.specs.Stream.{Octets}
use Rattle.model.specs.Records.{last_digits}

-- the first digit apart
pub digits_head : (count n : ℕ) → last_digits (suc count) n ≡ (48 + n / 10 ^ count % 10) ∷ last_digits count n
digits_head zero n = ap (λ (q : ℕ). (48 + q % 10) ∷ []) (sym (div-one n))
digits_head (suc count) n =
    ap (λ (xs : Octets). xs ++ (48 + n % 10) ∷ []) (digits_head count (n / 10))
    ∙ ap (λ (q : ℕ). (48 + q % 10) ∷ last_digits (suc count) n) (div-div-eq-div-mul n 10 (10 ^ count)
    ∙ ap (λ (p : ℕ). n / p) (sym (pow-succ' 10 count)))

-- ---- written from the last one on

pub next_written : (digits : Octets) (i n rest : ℕ) → length digits ≡ 10 → i < 10 → rest ≡ n / 10 ^ i
    → drop (10 - i) digits ≡ last_digits i n →
    drop (10 - (i + 1)) (set digits (9 - i) (48 + rest % 10)) ≡ last_digits (i + 1) n
next_written digits i n rest size low left is =
    let at : 10 - (i + 1) ≡ 9 - i = omega arith in
    let more : (9 - i) + 1 ≡ 10 - i = omega arith in
    let within : 9 - i < length digits = omega arith in
    let next : i + 1 ≡ suc i = omega arith in
    ap (λ (k : ℕ). drop k (set digits (9 - i) (48 + rest % 10))) at
    ∙ drop-set digits (9 - i) (48 + rest % 10) within
    ∙ ap (λ (k : ℕ). (48 + rest % 10) ∷ drop k digits) more
    ∙ ap (λ (xs : Octets). (48 + rest % 10) ∷ xs) is
    ∙ ap (λ (q : ℕ). (48 + q % 10) ∷ last_digits i n) left
    ∙ sym (digits_head i n)
    ∙ ap (λ (k : ℕ). last_digits k n) (sym next)

pub next_left : (i n rest : ℕ) → rest ≡ n / 10 ^ i → rest / 10 ≡ n / 10 ^ (i + 1)
next_left i n rest left =
    let next : i + 1 ≡ suc i = omega arith in
    ap (λ (q : ℕ). q / 10) left ∙ div-div-eq-div-mul n (10 ^ i) 10 ∙ ap (λ (p : ℕ). n / p) (power ∙ ap (λ (k : ℕ). 10 ^ k) (sym next)) where
      power : 10 ^ i * 10 ≡ 10 ^ suc i
      power = let more = pow-succ' 10 i in omega (arith, more)
