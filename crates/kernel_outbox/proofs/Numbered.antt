-- Lines of consecutive numbers.
use Rattle.std.proofs.Common.{◌≡◌, ℕ, zero, suc, ◌+◌, ◌-◌, ◌*◌, ◌^◌, ◌<◌, ◌≤◌, List, ◌∷◌, ◌++◌, sym, ◌∙◌, ap, arith, append_assoc}
use Rattle.std.proofs.Common.{[], ◌⊎◌, inl, inr, ⊎_elim, min, take, drop, length, length-append, length-set, set}
use Rattle.std.specs.Prelude.{decimal}
use Rattle.std.proofs.lemmas.List.{drop-set, length-drop, set_comm, take_all}
use Rattle.std.proofs.lemmas.Fmt.{decimal_is_IsNumeral, length-decimal-le}
use Rattle.std.proofs.lemmas.Int.Digits.{digits_value-lt}
use Rattle.std.proofs.lemmas.Bool.{cases_lt}
use Rattle.std.proofs.Math.Nat.{mul-le-mul_left, pow-le-pow_right, pow-suc}
use Rattle.kernel_outbox.specs.Numbers.{number_line, number_lines}

-- two octets before the others
two_at : (xs : List ℕ) (at a b : ℕ) → at + 2 ≤ length xs → drop at (set (set xs at a) (at + 1) b) ≡ a ∷ b ∷ drop (at + 2) xs
two_at xs at a b within =
    let next : at + 1 + 1 ≡ at + 2 = omega arith in
    ap (drop at) (set_comm xs at (at + 1) a b (λ same. omega (arith, same)))
    ∙ drop-set (set xs (at + 1) b) at a (omega (arith, length-set xs (at + 1) b, within))
    ∙ ap (λ os. a ∷ os) (drop-set xs (at + 1) b (omega (arith, within)) ∙ ap (λ n. b ∷ drop n xs) next)

pub two_before : (xs : List ℕ) (end a b : ℕ) → 2 ≤ end → end ≤ length xs
    → drop (end - 2) (set (set xs (end - 2) a) (end - 1) b) ≡ a ∷ b ∷ drop end xs
two_before xs end a b some within =
    let second : end - 1 ≡ end - 2 + 1 = omega (arith, some) in
    let later : end - 2 + 2 ≡ end = omega (arith, some) in
    ap (λ n. drop (end - 2) (set (set xs (end - 2) a) n b)) second
    ∙ two_at xs (end - 2) a b (omega (arith, some, within))
    ∙ ap (λ n. a ∷ b ∷ drop n xs) later

-- more lines after the others
pub more_after : (from a b : ℕ) → number_lines from (a + b) ≡ number_lines from a ++ number_lines (from + a) b
more_after from zero b =
    let start : from ≡ from + 0 = omega arith in
    let size : 0 + b ≡ b = omega arith in
    (λ i. number_lines (start i) (size i))
more_after from (suc a) b =
    let size : suc a + b ≡ suc (a + b) = omega arith in
    let place : from + 1 + a ≡ from + suc a = omega arith in
    ap (number_lines from) size
    ∙ ap (λ os. number_line from ++ os)
    (more_after (from + 1) a b ∙ ap (λ n. number_lines (from + 1) a ++ number_lines n b) place)
    ∙ sym (append_assoc (number_line from) (number_lines (from + 1) a) (number_lines (from + suc a) b))

-- ---- how long they are

-- a number of so many digits
pub digits_are : (k n : ℕ) → 10 ^ k ≤ n → n < 10 ^ (k + 1) → n < 2 ^ 64 → length (decimal n) ≡ k + 1
digits_are k n low high small =
    ⊎_elim
    (λ (less : length (decimal n) < k + 1).
    absurd (omega (arith, low, value, pow-le-pow_right {n = 10} (omega arith) {i = length (decimal n)} {j = k} (omega (arith, less)))))
    (λ (more : k + 1 ≤ length (decimal n)).
    omega (arith, more, length-decimal-le (k + 1) n (omega arith) high small))
    (cases_lt (length (decimal n)) (k + 1))
  where
    value : n < 10 ^ length (decimal n)
    value = let reads = decimal_is_IsNumeral n small in
        omega (arith, reads.1, digits_value-lt 10 (decimal n) reads.0.1)

-- the lines of numbers with equally many digits
pub length-lines : (k from count : ℕ) → 10 ^ k ≤ from → from + count ≤ 10 ^ (k + 1) → from + count ≤ 2 ^ 64
    → length (number_lines from count) ≡ count * (k + 3)
length-lines k from zero low high small = omega arith
length-lines k from (suc count) low high small =
    let one = digits_are k from low (omega (arith, high)) (omega (arith, small)) in
    let later = length-lines k (from + 1) count (omega (arith, low)) (omega (arith, high)) (omega (arith, small)) in
    omega (
      arith,
      length-append (number_line from) (number_lines (from + 1) count),
      length-append (decimal from) (13 ∷ 10 ∷ []),
      one,
      later,
    )

-- the lines up to a number, and those after it
pub lines_to : (k first counted end : ℕ) → first ≤ counted → counted ≤ end → 10 ^ k ≤ counted → end ≤ 10 ^ (k + 1) → end ≤ 2 ^ 64
    → length (number_lines first (end - first)) ≡ length (number_lines first (counted - first)) + (end - counted) * (k + 3)
lines_to k first counted end from to low high small =
    let size : end - first ≡ (counted - first) + (end - counted) = omega (arith, from, to) in
    let place : first + (counted - first) ≡ counted = omega (arith, from) in
    ap (λ n. length (number_lines first n)) size
    ∙ ap (λ os. length os) (more_after first (counted - first) (end - counted))
    ∙ length-append (number_lines first (counted - first)) (number_lines (first + (counted - first)) (end - counted))
    ∙ ap (λ n. length (number_lines first (counted - first)) + length (number_lines n (end - counted))) place
    ∙ ap (λ n. length (number_lines first (counted - first)) + n)
    (length-lines k counted (end - counted) low (omega (arith, high, to)) (omega (arith, small, to)))

-- the numbers with fewer digits are counted
pub record Counted (first count counted lower octets k : ℕ) : Type 0 where
  pub from : first ≤ counted
  pub to : counted ≤ first + count
  pub lower_is : lower ≡ 10 ^ k
  pub reached : (lower ≤ counted) ⊎ (counted ≡ first + count)
  pub octets_are : octets ≡ length (number_lines first (counted - first))
  pub few : octets ≤ 22 * (counted - first)

next_power : (lower k : ℕ) → lower ≡ 10 ^ k → lower * 10 ≡ 10 ^ (k + 1)
next_power lower k is = let next : suc k ≡ k + 1 = omega arith in ap (λ n. n * 10) is ∙ sym (pow-suc 10 k) ∙ ap (λ n. 10 ^ n) next

-- no number has as many digits
pub none_more : (first count counted lower octets k : ℕ) → Counted first count counted lower octets k → lower * 10 ≤ counted
    → Counted first count counted (lower * 10) octets (k + 1)
none_more first count counted lower octets k c above = record {
  from = c.from;
  to = c.to;
  lower_is = next_power lower k c.lower_is;
  reached = inl above;
  octets_are = c.octets_are;
  few = c.few;
}

module _ (first count counted lower octets k end : ℕ) (small : first + count ≤ 2 ^ 64) (short : k < 20)
    (c : Counted first count counted lower octets k)
    (below : counted < lower * 10) (is : end ≡ min (first + count) (lower * 10)) where
  order : counted ≤ end
  order = omega (arith, c.to, below, is)

  longer : length (number_lines first (end - first)) ≡ length (number_lines first (counted - first)) + (end - counted) * (k + 3)
  longer = ⊎_elim
      (λ (low : lower ≤ counted).
      lines_to k first counted end c.from order (omega (arith, low, c.lower_is))
      (omega (arith, is, next_power lower k c.lower_is)) (omega (arith, is, small)))
      (λ (all : counted ≡ first + count).
      let none : end ≡ counted = omega (arith, all, is, below) in
      let zero_more : end - counted ≡ 0 = omega (arith, none) in
      ap (λ n. length (number_lines first (n - first))) none
      ∙ omega (arith, ap (λ n. n * (k + 3)) zero_more))
      c.reached

  -- the numbers with so many digits
  pub some_more : Counted first count end (lower * 10) (octets + (end - counted) * (k + 3)) (k + 1)
  some_more = record {
    from = omega (arith, c.from, order);
    to = omega (arith, is);
    lower_is = next_power lower k c.lower_is;
    reached = ⊎_elim
        (λ (less : first + count < lower * 10). inr (omega (arith, less, is)))
        (λ (more : lower * 10 ≤ first + count). inl (omega (arith, more, is)))
        (cases_lt (first + count) (lower * 10));
    octets_are = omega (arith, longer, c.octets_are);
    few = omega (arith, c.few, c.from, order, mul-le-mul_left (end - counted) (let few : k + 3 ≤ 22 = omega (arith, short) in few));
  }

-- all are counted
pub all_counted : (first count counted lower octets : ℕ) → first + count ≤ 2 ^ 64 → Counted first count counted lower octets 20
    → counted - first ≡ count
all_counted first count counted lower octets small c = ⊎_elim
    (λ (low : lower ≤ counted). absurd (omega (arith, low, c.lower_is, c.to, small)))
    (λ (all : counted ≡ first + count). omega (arith, all))
    c.reached

-- the first lines and those after them
pub lines_split : (from some left : ℕ) → some ≤ left
    → number_lines from left ≡ number_lines from some ++ number_lines (from + some) (left - some)
lines_split from some left within =
    let size : left ≡ some + (left - some) = omega (arith, within) in
    ap (number_lines from) size ∙ more_after from some (left - some)

pub some_short : (from some left : ℕ) → some ≤ left → length (number_lines from some) ≤ length (number_lines from left)
some_short from some left within =
    omega (
      arith,
      ap (λ (os : List ℕ). length os) (lines_split from some left within),
      length-append (number_lines from some) (number_lines (from + some) (left - some)),
    )

-- the octets at the end of an array
pub at_end : (octets lines : List ℕ) (start : ℕ) → length octets ≡ 1408 → drop start octets ≡ lines
    → take (1408 - start) (drop start octets) ≡ lines
at_end octets lines start long is = take_all (1408 - start) (drop start octets) (omega (arith, long, length-drop start octets)) ∙ is
