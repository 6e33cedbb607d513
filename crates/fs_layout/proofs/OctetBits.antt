-- The bits of an octet, counted.
use Rattle.std.proofs.Common.{◌≡◌, ◌<◌, ℕ, zero, suc, ◌+◌, ◌-◌, ◌*◌, ◌/◌, ◌%◌, ◌^◌, cond, eqb, not, Bool, true, false, count_by, List, []}
use Rattle.std.proofs.Common.{◌∷◌, get_or, length, refl, sym, ◌∙◌, ap, arith}
use Rattle.std.specs.Prelude.{count_ones}
use Rattle.std.specs.Int.Count.{ones-ones}
use Rattle.std.specs.List.{range_with_len}
use Rattle.std.proofs.lemmas.List.FromFn.{length-range_with_len}
use Rattle.std.proofs.lemmas.Nat.{ones-le, ones_cat}
use Rattle.std.proofs.Math.Nat.{div-div-eq-div-mul, div-one, pow-suc, pow-succ'}
use Rattle.model.specs.Stream.{Octets}
use Rattle.model.proofs.Counting.{count_cons}
use Rattle.fs_layout.specs.Bits.{bit_of}
use Rattle.fs_layout.proofs.Counts.{count_same, count_split}

abbrev has_bit : ℕ → ℕ → Bool
has_bit n j = eqb (n / 2 ^ j % 2) 1

ones_of_bit : (d : ℕ) → d < 2 → count_ones d ≡ d
ones_of_bit zero low = omega (arith, ones-le 0 0 (omega arith))
ones_of_bit (suc zero) low = omega (arith, ones-ones 1)
ones_of_bit (suc (suc d)) low = omega arith

ones_halved : (n : ℕ) → count_ones n ≡ n % 2 + count_ones (n / 2)
ones_halved n =
    let parts : n / 2 * 2 ^ 1 + n % 2 ≡ n = omega arith in
    let cat = ones_cat 1 (n / 2) (n % 2) (omega arith) in
    let low = ones_of_bit (n % 2) (omega arith) in
    let whole = ap count_ones parts in
    omega (arith, cat, low, whole)

digit : (d : ℕ) → d < 2 → cond (eqb d 1) 1 0 ≡ d
digit zero low = refl
digit (suc zero) low = refl
digit (suc (suc d)) low = omega arith

set_bits : (d n : ℕ) → n < 2 ^ d → count_by (has_bit n) (range_with_len 0 d) ≡ count_ones n
set_bits zero n small = omega (arith, ones-le 0 n small)
set_bits (suc d) n small =
    let half : n / 2 < 2 ^ d = omega (arith, small, pow-suc 2 d) in
    let first : n / 2 ^ 0 ≡ n = div-one n in
    let one = count_cons (has_bit n) 0 (range_with_len (0 + 1) d) in
    let rest = count_same (has_bit n) (has_bit (n / 2)) (0 + 1) 0 d (λ i low. moved i) in
    let so_far = set_bits d (n / 2) half in
    let now : cond (has_bit n 0) 1 0 ≡ n % 2 = ap (λ (k : ℕ). cond (eqb (k % 2) 1) 1 0) first ∙ digit (n % 2) (omega arith) in
    let whole = ones_halved n in
    one ∙ ap (λ (k : ℕ). k + count_by (has_bit n) (range_with_len (0 + 1) d)) now ∙ ap (λ (k : ℕ). n % 2 + k) (rest ∙ so_far) ∙ sym whole
  where
    moved : (i : ℕ) → has_bit n (0 + 1 + i) ≡ has_bit (n / 2) (0 + i)
    moved i =
        let next : 0 + 1 + i ≡ suc i = omega arith in
        let same : 0 + i ≡ i = omega arith in
        ap (has_bit n) next ∙ ap (λ (k : ℕ). eqb (n / k % 2) 1) (pow-succ' 2 i)
        ∙ ap (λ (k : ℕ). eqb (k % 2) 1) (sym (div-div-eq-div-mul n 2 (2 ^ i))) ∙ ap (has_bit (n / 2)) (sym same)

pub count_not : (p : ℕ → Bool) (xs : List ℕ) → count_by p xs + count_by (λ x. not (p x)) xs ≡ length xs
count_not p [] = refl
count_not p (x ∷ xs) =
    either (p x) (count_cons p x xs) (count_cons (λ y. not (p y)) x xs) (count_not p xs)
  where
    either : (t : Bool) → count_by p (x ∷ xs) ≡ cond t 1 0 + count_by p xs
        → count_by (λ y. not (p y)) (x ∷ xs) ≡ cond (not t) 1 0 + count_by (λ y. not (p y)) xs
        → count_by p xs + count_by (λ y. not (p y)) xs ≡ length xs
        → count_by p (x ∷ xs) + count_by (λ y. not (p y)) (x ∷ xs) ≡ suc (length xs)
    either true set clear rest = omega arith
    either false set clear rest = omega arith

pub clear_bits_of : (n : ℕ) → n < 256 → count_by (λ j. not (has_bit n j)) (range_with_len 0 8) ≡ 8 - count_ones n
clear_bits_of n small =
    let all = count_not (has_bit n) (range_with_len 0 8) in
    let many = length-range_with_len 0 8 in
    let set = set_bits 8 n (omega (arith, small)) in
    omega (arith, all, many, set)

-- the bits of one octet more
pub octet_more : (octets : Octets) (place clear here : ℕ) → clear ≡ count_by (λ b. not (bit_of octets b)) (range_with_len 0 (8 * place))
    → here ≡ count_by (λ j. not (has_bit (get_or octets place 0) j)) (range_with_len 0 8)
    → clear + here ≡ count_by (λ b. not (bit_of octets b)) (range_with_len 0 (8 * (place + 1)))
octet_more octets place clear here so_far counted =
    let many : 8 * (place + 1) ≡ 8 * place + 8 = omega arith in
    let split = count_split (λ b. not (bit_of octets b)) 0 (8 * place) 8 in
    let at : 0 + 8 * place ≡ 8 * place + 0 = omega arith in
    let same = count_same (λ b. not (bit_of octets b)) (λ j. not (has_bit (get_or octets place 0) j)) (0 + 8 * place) 0 8
    (λ i low. moved i low) in
    ap (λ (k : ℕ). k + here) so_far
    ∙ ap (λ (k : ℕ). count_by (λ b. not (bit_of octets b)) (range_with_len 0 (8 * place)) + k) (counted ∙ sym same) ∙ sym split
    ∙ ap (λ (k : ℕ). count_by (λ b. not (bit_of octets b)) (range_with_len 0 k)) (sym many)
  where
    moved : (i : ℕ) → i < 8 → not (bit_of octets (0 + 8 * place + i)) ≡ not (has_bit (get_or octets place 0) (0 + i))
    moved i low =
        let octet : (0 + 8 * place + i) / 8 ≡ place = omega (arith, low) in
        let bit : (0 + 8 * place + i) % 8 ≡ 0 + i = omega (arith, low) in
        ap (λ (k : ℕ). not (eqb (get_or octets k 0 / 2 ^ ((0 + 8 * place + i) % 8) % 2) 1)) octet
        ∙ ap (λ (k : ℕ). not (eqb (get_or octets place 0 / 2 ^ k % 2) 1)) bit
