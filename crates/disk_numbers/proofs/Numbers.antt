-- Numbers in octets, after writes.
use Rattle.std.proofs.Common.{◌≡◌, ◌⊎◌, ◌<◌, ◌≤◌, ℕ, ◌+◌, ◌^◌, List, ◌++◌, length, take, drop}
use Rattle.std.proofs.Common.{sym, ◌∙◌, ap, arith, length-take-le}
use Rattle.std.proofs.lemmas.List.{drop_at}
use Rattle.byteorder.specs.Endian.{little_number, little_bytes}
use Rattle.byteorder.specs.Numbers.{little_from-take, little_number-reads_back}
use Rattle.disk.specs.Image.{overwritten, part}
use Rattle.disk.proofs.Images.{part-overwritten_apart}
use Rattle.model.specs.Volume.{number_at}

number_at-part : (at n : ℕ) (octets : List ℕ) → number_at at n octets ≡ little_number n (part at n octets)
unfolding number_at
number_at-part at n octets = sym (little_from-take 0 n n (drop at octets) (omega arith))

-- apart from what was written
pub number_at_apart : (at : ℕ) (octets xs : List ℕ) → at + length octets ≤ length xs → (p n : ℕ) → (p + n ≤ at) ⊎ (at + length octets ≤ p)
    → number_at p n (overwritten at octets xs) ≡ number_at p n xs
number_at_apart at octets xs fits p n apart =
    number_at-part p n (overwritten at octets xs)
    ∙ ap (λ (ys : List ℕ). little_number n ys) (part-overwritten_apart at octets xs fits p n apart) ∙ sym (number_at-part p n xs)

pub after : (at : ℕ) (octets xs : List ℕ) → at ≤ length xs → drop at (overwritten at octets xs) ≡ octets ++ drop (at + length octets) xs
after at octets xs within = drop_at (take at xs) (octets ++ drop (at + length octets) xs) at (length-take-le at xs within)

-- what was written
pub number_at_written : (at n x : ℕ) (xs : List ℕ) → at ≤ length xs → x < 256 ^ n
    → number_at at n (overwritten at (little_bytes n x) xs) ≡ x
unfolding number_at
number_at_written at n x xs within fits =
    ap (λ (ys : List ℕ). little_number n ys) (after at (little_bytes n x) xs within)
    ∙ little_number-reads_back n x (drop (at + length (little_bytes n x)) xs) fits
