use Rattle.std.proofs.Common.{◌≡◌, ℕ, ◌+◌, ◌-◌, ◌*◌, ◌/◌, not, count_by, sym, ◌∙◌, ap, arith}
use Rattle.std.specs.List.{range_with_len}
use Rattle.fs_layout.specs.Bits.{bit_of}
use Rattle.fs_layout.proofs.Counts.{count_split}
use Rattle.fs_layout.proofs.OctetBits.{octet_more}
use Rattle.fs_layout.proofs.bits.count_clear.Goals as goal

pub loop-place-preserved : goal.loop-place-preserved
loop-place-preserved c = (
  omega (arith, c.loop-place.invariant.0, c.clear_bits-clear.ensures.few),
  octet_more c.args.octets.now c.loop-place.place c.loop-place.clear c.clear_bits-clear.result c.loop-place.invariant.1
      c.clear_bits-clear.ensures.clear,
)

pub returns-clause-clear : goal.returns-clause-clear
returns-clause-clear c =
    let whole : ℕ = c.args.count / 8 in
    let at : c.loop-place.place ≡ whole = omega arith in
    let counted = c.loop-place.invariant.1
    ∙ ap (λ (k : ℕ). count_by (λ b. not (bit_of c.args.octets.now b)) (range_with_len 0 (8 * k))) at in
    let parts : 8 * whole + (c.args.count - 8 * whole) ≡ c.args.count = omega arith in
    let here : 0 + 8 * whole ≡ 8 * whole = omega arith in
    let split = count_split (λ b. not (bit_of c.args.octets.now b)) 0 (8 * whole) (c.args.count - 8 * whole) in
    ap (λ (m : ℕ). m + c.clear_between.result) counted
    ∙ ap (λ (m : ℕ). count_by (λ b. not (bit_of c.args.octets.now b)) (range_with_len 0 (8 * whole)) + m)
    (c.clear_between.ensures.clear ∙ ap
    (λ (k : ℕ). count_by (λ b. not (bit_of c.args.octets.now b)) (range_with_len k (c.args.count - 8 * whole))) (sym here))
    ∙ sym split ∙ ap (λ (k : ℕ). count_by (λ b. not (bit_of c.args.octets.now b)) (range_with_len 0 k)) parts
