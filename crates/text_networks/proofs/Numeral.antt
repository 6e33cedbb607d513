-- What `decimal` writes of a number up to 65,535, and what digits write.
use Rattle.std.proofs.Common.{◌≡◌, ℕ, suc, zero, ◌^◌, ◌<◌, ◌≤◌, List, length, get_or, take, decimal, sym, ap, ◌∙◌, subst, lit≤, arith}
use Rattle.std.specs.Int.{IsInRange}
use Rattle.std.specs.Str.Parse.{AllDigits, digits_value}
use Rattle.std.proofs.lemmas.Fmt.{decimal_digit, decimal_is_IsNumeral, decimal_nonempty, first_decimal, length-decimal-le}
use Rattle.std.proofs.lemmas.Fmt.{decimal-digits_value}
use Rattle.std.proofs.lemmas.Int.Digits.{digits_value-lt}
use Rattle.std.proofs.lemmas.List.{length-take}
use Rattle.std.proofs.lemmas.Str.Parse.{IsNumeralModel, digit_at, numerals_by_value, tells_digits}

-- one to five digits, and a leading zero stands alone
pub record Shape (text : List ℕ) : Type 0 where
  pub some : 0 < length text
  pub few : length text ≤ 5
  pub lone_zero : get_or text 0 0 ≡ 48 → length text ≡ 1

shape_of : (n : ℕ) → n ≤ 65535 → Shape (decimal n)
shape_of zero small = record {
  some = decimal_nonempty zero (omega arith);
  few = length-decimal-le 5 zero (omega arith) (omega arith) (omega arith);
  lone_zero = λ _. ap length (decimal_digit zero (omega arith));
}
shape_of (suc n) small = record {
  some = decimal_nonempty (suc n) (omega arith);
  few = length-decimal-le 5 (suc n) (omega arith) (omega arith) (omega arith);
  lone_zero = λ e. absurd (omega (arith, first_decimal (suc n) (omega arith) (omega arith), e));
}

pub shape : (text : List ℕ) (n : ℕ) → n ≤ 65535 → text ≡ decimal n → Shape text
shape text n small e = subst Shape (sym e) (shape_of n small)

pub digits_of_decimal : (text : List ℕ) (n : ℕ) → n ≤ 65535 → text ≡ decimal n → AllDigits 10 text
digits_of_decimal text n small e = subst (AllDigits 10) (sym e) (decimal_is_IsNumeral n (omega arith)).0.1

pub digit_of_decimal : (text : List ℕ) (n i : ℕ) → n ≤ 65535 → text ≡ decimal n → i < length text → IsInRange 48 57 (get_or text i 0)
digit_of_decimal text n i small e within = digit_at text i (digits_of_decimal text n small e) within

pub value_of_decimal : (text : List ℕ) (n : ℕ) → n ≤ 65535 → text ≡ decimal n → digits_value 10 text ≡ n
value_of_decimal text n small e = ap (digits_value 10) e ∙ (decimal_is_IsNumeral n (omega arith)).1

below_all : (k : ℕ) → k ≤ 5 → 10 ^ k ≤ 100000
below_all zero few = lit≤ tt
below_all (suc zero) few = lit≤ tt
below_all (suc (suc zero)) few = lit≤ tt
below_all (suc (suc (suc zero))) few = lit≤ tt
below_all (suc (suc (suc (suc zero)))) few = lit≤ tt
below_all (suc (suc (suc (suc (suc zero))))) few = lit≤ tt
below_all (suc (suc (suc (suc (suc (suc k)))))) few = absurd (omega (arith, few))

-- five digits write less than 100,000
pub value_below : (text : List ℕ) → AllDigits 10 text → length text ≤ 5 → digits_value 10 text < 100000
value_below text all few = omega (arith, digits_value-lt 10 text all, below_all (length text) few)

pub front_below : (text : List ℕ) (i : ℕ) → AllDigits 10 (take i text) → length text ≤ 5 → digits_value 10 (take i text) < 100000
front_below text i all few = value_below (take i text) all (omega (arith, length-take i text))

own : IsNumeralModel (AllDigits 10) (digits_value 10)
own = numerals_by_value (AllDigits 10) tells_digits

-- digits with no leading zero are what `decimal` writes of their value
pub decimal_of_digits : (text : List ℕ) → AllDigits 10 text → 0 < length text → length text ≤ 5 → (get_or text 0 0 ≡ 48 → length text ≡ 1)
    → text ≡ decimal (digits_value 10 text)
decimal_of_digits text all some few lone = sym (decimal-digits_value own text all some lone (omega (arith, value_below text all few)))
