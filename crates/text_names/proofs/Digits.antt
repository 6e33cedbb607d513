-- Numbers that digits write.
use Rattle.std.specs.Prelude.{◌≡◌, ℕ, ◌+◌, ◌-◌, ◌*◌, ◌^◌, ◌<◌, ◌≤◌, true, nat_le, List, [], ◌∷◌, length, take, get_or}
use Rattle.std.specs.List.{list_all}
use Rattle.std.specs.Char.{is_ascii_digit}
use Rattle.std.specs.Int.{IsInRange}
use Rattle.std.specs.Str.Parse.{digits_value, AllDigits}
use Rattle.std.proofs.Common.{refl, arith, lit<, lit≤}
use Rattle.std.proofs.Math.Nat.{pow-le-pow_right}
use Rattle.std.proofs.lemmas.Bool.{and_parts, leb-true}
use Rattle.std.proofs.lemmas.Int.Digits.{digits_value-lt, digits_value_more}
use Rattle.std.proofs.lemmas.List.Recursion.{and_at}
use Rattle.std.proofs.lemmas.Str.{digit_value_digit}
use Rattle.std.proofs.lemmas.Str.Parse.{digits_value-take-le}

-- the codes of digits
digit_range : (c : ℕ) → is_ascii_digit c ≡ true → IsInRange 48 57 c
digit_range c is =
    let parts = and_parts (nat_le 48 c) (nat_le c 57) is in (leb-true 48 c parts.0, leb-true c 57 parts.1)

all_digits : (ds : List ℕ) → list_all is_ascii_digit ds ≡ true → AllDigits 10 ds
all_digits [] all = tt
all_digits (c ∷ ds) all =
    let parts = and_parts (is_ascii_digit c) (list_all is_ascii_digit ds) all in
    let range = digit_range c parts.0 in
    (omega (arith, digit_value_digit c range), all_digits ds parts.1)

module _ (ds : List ℕ) (all : list_all is_ascii_digit ds ≡ true) where
  -- one more digit
  pub digits_more : (i : ℕ) → i < length ds → digits_value 10 (take i ds) * 10 + (get_or ds i 0 - 48) ≡ digits_value 10 (take (i + 1) ds)
  digits_more i within =
      let range = digit_range (get_or ds i 0) (and_at (list_all is_ascii_digit) is_ascii_digit refl (λ _ _. refl) ds i 0 within all) in
      omega (arith, digits_value_more 10 ds i within, digit_value_digit (get_or ds i 0) range)

  -- 16 digits fit
  pub digits_small : length ds ≤ 16 → (i : ℕ) → digits_value 10 (take i ds) < 10 ^ 16
  digits_small few i =
      omega (
        arith,
        digits_value-lt 10 ds (all_digits ds all),
        pow-le-pow_right {n = 10} (lit< tt) few,
        digits_value-take-le 10 ds i (lit≤ tt),
      )
