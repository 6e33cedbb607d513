-- Numbers that digits write.
use Rattle.std.specs.Prelude.{◌≡◌, ℕ, ◌^◌, ◌<◌, ◌≤◌, List, length, take, Some, None}
use Rattle.std.specs.Str.Parse.{digits_value}
use Rattle.std.proofs.Common.{◌∙◌, ap, arith, lit≤}
use Rattle.std.proofs.lemmas.List.{take_all}
use Rattle.std.proofs.lemmas.Bool.Decides.{nat_tests}
use Rattle.std.proofs.lemmas.Str.Parse.{digits_value-take-le}
use Rattle.program_script.specs.Words.{within_u64}

-- where a number is too large, so is that of all its digits
pub too_large : (ds : List ℕ) (i : ℕ) → 2 ^ 64 ≤ digits_value 10 (take i ds) → within_u64 ds ≡ None
too_large ds i large =
    let whole : 2 ^ 64 ≤ digits_value 10 ds = omega (arith, digits_value-take-le 10 ds i (lit≤ tt)) in
    grind (arith, nat_tests)

-- else it is the number
pub whole : (ds : List ℕ) (i value : ℕ) → length ds ≤ i → value ≡ digits_value 10 (take i ds) → value < 2 ^ 64 → Some value ≡ within_u64 ds
whole ds i value all is fits =
    let same : value ≡ digits_value 10 ds = is ∙ ap (digits_value 10) (take_all i ds all) in
    grind (arith, nat_tests)
