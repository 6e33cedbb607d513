use Rattle.std.proofs.Common.{◌≡◌, inl, inr, ℕ, ◌+◌, ◌-◌, ◌*◌, ◌/◌, ◌%◌, ◌^◌, ◌<◌, ◌≤◌, true, eqb, w8, List, get_or, sym, ◌∙◌, ap, subst}
use Rattle.std.proofs.Common.{arith}
use Rattle.std.specs.Int.{bit_at, trailing_ones}
use Rattle.std.proofs.lemmas.Bool.{cases_lt}
use Rattle.std.proofs.lemmas.Nat.Bits.{bit_at-trailing_ones, bit_at_ones}
use Rattle.fs_layout.specs.Bits.{bit_of}
use Rattle.fs_layout.proofs.bits.lowest_clear.Goals as goal

-- a bit of one octet
in_octet : (octets : List ℕ) (place i : ℕ) → i < 8 → bit_of octets (8 * place + i) ≡ eqb (bit_at (get_or octets place 0) i) 1
in_octet octets place i low =
    let at : (8 * place + i) / 8 ≡ place = omega arith in
    let bit : (8 * place + i) % 8 ≡ i = omega arith in
    ap (λ (k : ℕ). eqb (get_or octets k 0 / 2 ^ ((8 * place + i) % 8) % 2) 1) at
    ∙ ap (λ (k : ℕ). eqb (get_or octets place 0 / 2 ^ k % 2) 1) bit

-- bits before this octet and in its front are set
front_set : (octets : List ℕ) (place some : ℕ) → some ≤ 8 → ((b : ℕ) → b < 8 * place → bit_of octets b ≡ true)
    → ((i : ℕ) → i < some → bit_at (get_or octets place 0) i ≡ 1) → (b : ℕ) → b < 8 * place + some → bit_of octets b ≡ true
front_set octets place some few before ones b low = elim (cases_lt b (8 * place)) [
  | inl earlier ↦ before b earlier
  | inr here ↦
      let is : b ≡ 8 * place + (b - 8 * place) = omega arith in
      ap (λ (k : ℕ). bit_of octets k) is ∙ in_octet octets place (b - 8 * place) (omega arith)
      ∙ ap (λ (n : ℕ). eqb n 1) (ones (b - 8 * place) (omega arith))
]

-- the lowest clear bit of an octet
lowest_in : (octet t : ℕ) → octet < 255 → t ≡ trailing_ones w8 octet
    → (t < 8) × (bit_at octet t ≡ 0) × ((i : ℕ) → i < t → bit_at octet i ≡ 1)
lowest_in octet t low is =
    subst (λ (n : ℕ). (n < 8) × (bit_at octet n ≡ 0) × ((i : ℕ) → i < n → bit_at octet i ≡ 1)) (sym is)
    (bit_at-trailing_ones w8 octet (omega arith))

full : (octet : ℕ) → 255 ≤ octet → octet < 256 → (i : ℕ) → i < 8 → bit_at octet i ≡ 1
full octet high small i low =
    let is : octet ≡ 255 = omega arith in
    ap (λ (n : ℕ). bit_at n i) is ∙ bit_at_ones 8 i low

pub returns-then-bit-count : goal.returns-then-bit-count
returns-then-bit-count c =
    let place = c.loop-place.place in
    let bit = c.trailing_ones.result in
    let found = lowest_in (get_or c.args.octets.now place 0) bit c.if-octet-lt255.true c.trailing_ones.ensures in
    record {
      below = c.if-bit-count.true;
      clear = in_octet c.args.octets.now place bit found.0 ∙ ap (λ (n : ℕ). eqb n 1) found.1;
      lower = front_set c.args.octets.now place bit (omega (arith, found.0)) c.loop-place.invariant found.2;
    }

pub returns-else-bit-count : goal.returns-else-bit-count
returns-else-bit-count c b low =
    let place = c.loop-place.place in
    let bit = c.trailing_ones.result in
    let found = lowest_in (get_or c.args.octets.now place 0) bit c.if-octet-lt255.true c.trailing_ones.ensures in
    front_set c.args.octets.now place bit (omega (arith, found.0)) c.loop-place.invariant found.2 b (omega (arith, c.if-bit-count.false))

pub loop-place-preserved : goal.loop-place-preserved
loop-place-preserved c b low =
    let place = c.loop-place.place in
    front_set c.args.octets.now place 8 (omega arith) c.loop-place.invariant
    (full (get_or c.args.octets.now place 0) c.if-octet-lt255.false (omega (arith, c.type_inv.octets place))) b (omega arith)
