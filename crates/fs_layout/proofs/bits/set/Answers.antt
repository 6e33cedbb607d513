use Rattle.std.proofs.Common.{◌≢◌, inl, inr, ℕ, ◌<◌, ◌*◌, ◌/◌, ◌%◌, ◌^◌, eqb, true, bit_or, w8, List, length, get_or, set, sym, ◌∙◌, ap}
use Rattle.std.proofs.Common.{arith, length-set, get_or-set_same, get_or-set_other}
use Rattle.std.proofs.lemmas.Bool.{cases_eq}
use Rattle.std.proofs.lemmas.Nat.Bits.{bit_at_set_same, bit_at_set_other}
use Rattle.fs_layout.specs.Bits.{SetsBit}
use Rattle.fs_layout.proofs.bits.set.Goals as goal

module _ (octets : List ℕ) (bit : ℕ) (low : bit / 8 < length octets) where
  octet : ℕ
  octet = get_or octets (bit / 8) 0

  sets : SetsBit bit true octets (set octets (bit / 8) (bit_or (get_or octets (bit / 8) 0) (1 * 2 ^ (bit % 8) % 256)))
  sets = record {
    size = length-set octets (bit / 8) (bit_or (get_or octets (bit / 8) 0) (1 * 2 ^ (bit % 8) % 256));
    here =
        ap (λ (n : ℕ). eqb (n / 2 ^ (bit % 8) % 2) 1)
        (get_or-set_same octets (bit / 8) (bit_or (get_or octets (bit / 8) 0) (1 * 2 ^ (bit % 8) % 256)) 0 low)
        ∙ ap (λ (n : ℕ). eqb n 1) (bit_at_set_same w8 (get_or octets (bit / 8) 0) (bit % 8) (omega arith));
    other = λ b apart. elim (cases_eq (b / 8) (bit / 8)) [
      | inl same ↦
          let differs : b % 8 ≢ bit % 8 = omega arith in
          ap (λ (k : ℕ). eqb (get_or (set octets (bit / 8) (bit_or (get_or octets (bit / 8) 0) (1 * 2 ^ (bit % 8) % 256))) k 0 / 2 ^
          (b % 8) % 2) 1) same
          ∙ ap (λ (n : ℕ). eqb (n / 2 ^ (b % 8) % 2) 1)
          (get_or-set_same octets (bit / 8) (bit_or (get_or octets (bit / 8) 0) (1 * 2 ^ (bit % 8) % 256)) 0 low)
          ∙ ap (λ (n : ℕ). eqb n 1) (bit_at_set_other w8 (get_or octets (bit / 8) 0) (bit % 8) (omega arith) (b % 8) differs)
          ∙ ap (λ (k : ℕ). eqb (get_or octets k 0 / 2 ^ (b % 8) % 2) 1) (sym same)
      | inr elsewhere ↦ ap (λ (n : ℕ). eqb (n / 2 ^ (b % 8) % 2) 1)
          (get_or-set_other octets (bit / 8) (b / 8) (bit_or (get_or octets (bit / 8) 0) (1 * 2 ^ (bit % 8) % 256)) 0 elsewhere)
    ];
  }

pub returns : goal.returns
returns c = sets c.args.octets.now c.args.bit c.requires
