-- How many numbers pass a test.
use Rattle.std.proofs.Common.{◌≡◌, ◌<◌, ℕ, zero, suc, ◌+◌, ◌*◌, ◌/◌, ◌%◌, ◌^◌, cond, eqb, Bool, count_by, List, [], ◌∷◌, get_or, refl, sym}
use Rattle.std.proofs.Common.{◌∙◌, ap, arith}
use Rattle.std.specs.List.{range_with_len}
use Rattle.model.specs.Stream.{Octets}
use Rattle.model.specs.Files.{is_marked_used}
use Rattle.model.proofs.Counting.{count_cons}
use Rattle.fs_layout.specs.Bits.{bit_of}

pub count_same : (p q : ℕ → Bool) (a b n : ℕ) → ((i : ℕ) → i < n → p (a + i) ≡ q (b + i))
    → count_by p (range_with_len a n) ≡ count_by q (range_with_len b n)
count_same p q a b zero same = refl
count_same p q a b (suc n) same =
    count_cons p a (range_with_len (a + 1) n)
    ∙ ap (λ (t : Bool). cond t 1 0 + count_by p (range_with_len (a + 1) n)) (first (same 0 (omega arith)))
    ∙ ap (λ (m : ℕ). cond (q b) 1 0 + m) (count_same p q (a + 1) (b + 1) n (λ i low. moved i (same (suc i) (omega arith))))
    ∙ sym (count_cons q b (range_with_len (b + 1) n))
  where
    first : p (a + 0) ≡ q (b + 0) → p a ≡ q b
    first e = let x : a + 0 ≡ a = omega arith in let y : b + 0 ≡ b = omega arith in sym (ap p x) ∙ e ∙ ap q y

    moved : (i : ℕ) → p (a + suc i) ≡ q (b + suc i) → p (a + 1 + i) ≡ q (b + 1 + i)
    moved i e = let x : a + 1 + i ≡ a + suc i = omega arith in let y : b + suc i ≡ b + 1 + i = omega arith in ap p x ∙ e ∙ ap q y

pub count_split : (p : ℕ → Bool) (a n m : ℕ)
    → count_by p (range_with_len a (n + m)) ≡ count_by p (range_with_len a n) + count_by p (range_with_len (a + n) m)
count_split p a zero m =
    let x : 0 + m ≡ m = omega arith in let y : a ≡ a + 0 = omega arith in
    ap (λ (k : ℕ). count_by p (range_with_len a k)) x ∙ ap (λ (k : ℕ). count_by p (range_with_len k m)) y
    ∙ (let z : count_by p (range_with_len (a + 0) m) ≡ 0 + count_by p (range_with_len (a + 0) m) = omega arith in z)
count_split p a (suc n) m =
    let x : suc n + m ≡ suc (n + m) = omega arith in
    let y : a + 1 + n ≡ a + suc n = omega arith in
    let rest = count_split p (a + 1) n m in
    let moved = ap (λ (k : ℕ). count_by p (range_with_len k m)) y in
    let one = count_cons p a (range_with_len (a + 1) (n + m)) in
    let other = count_cons p a (range_with_len (a + 1) n) in
    ap (λ (k : ℕ). count_by p (range_with_len a k)) x ∙ one ∙ sums (cond (p a) 1 0) rest moved other
  where
    sums : (t : ℕ) → count_by p (range_with_len (a + 1) (n + m)) ≡ count_by p (range_with_len (a + 1) n) + count_by p
        (range_with_len (a + 1 + n) m) → count_by p (range_with_len (a + 1 + n) m) ≡ count_by p (range_with_len (a + suc n) m)
        → count_by p (a ∷ range_with_len (a + 1) n) ≡ t + count_by p (range_with_len (a + 1) n)
        → t + count_by p (range_with_len (a + 1) (n + m)) ≡ count_by p (a ∷ range_with_len (a + 1) n) + count_by p
        (range_with_len (a + suc n) m)
    sums t e f g = omega arith

pub count_next : (p : ℕ → Bool) (a n : ℕ) → count_by p (range_with_len a (n + 1)) ≡ count_by p (range_with_len a n) + cond (p (a + n)) 1 0
count_next p a n =
    let one = count_cons p (a + n) [] in
    let last : cond (p (a + n)) 1 0 + 0 ≡ cond (p (a + n)) 1 0 = omega arith in
    count_split p a n 1 ∙ ap (λ (k : ℕ). count_by p (range_with_len a n) + k) (one ∙ last)

pub count_more : (p : ℕ → Bool) (n : ℕ) → count_by p (range_with_len 0 (n + 1)) ≡ count_by p (range_with_len 0 n) + cond (p n) 1 0
count_more p n =
    let none : 0 + n ≡ n = omega arith in
    count_next p 0 n ∙ ap (λ (k : ℕ). count_by p (range_with_len 0 n) + cond (p k) 1 0) none

-- a block's bits are the marks of its blocks
pub mark_is_bit : (blocks : List Octets) (n b : ℕ) → b < 32768 → is_marked_used blocks (32768 * n + b) ≡ bit_of (get_or blocks n []) b
mark_is_bit blocks n b low =
    let block : (32768 * n + b) / 8 / 4096 ≡ n = omega arith in
    let octet : (32768 * n + b) / 8 % 4096 ≡ b / 8 = omega arith in
    let bit : (32768 * n + b) % 8 ≡ b % 8 = omega arith in
    ap (λ (k : ℕ). eqb (get_or (get_or blocks k []) ((32768 * n + b) / 8 % 4096) 0 / 2 ^ ((32768 * n + b) % 8) % 2) 1) block
    ∙ ap (λ (k : ℕ). eqb (get_or (get_or blocks n []) k 0 / 2 ^ ((32768 * n + b) % 8) % 2) 1) octet
    ∙ ap (λ (k : ℕ). eqb (get_or (get_or blocks n []) (b / 8) 0 / 2 ^ k % 2) 1) bit
