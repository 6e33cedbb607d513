use Rattle.std.proofs.Common.{◌≡◌, ℕ, ◌+◌, ◌-◌, ◌≤◌, not, Bool, true, false, cond, count_by, List, sym, ◌∙◌, ap, arith}
use Rattle.std.specs.List.{range_with_len}
use Rattle.fs_layout.specs.Bits.{bit_of}
use Rattle.fs_layout.proofs.Counts.{count_next}
use Rattle.fs_layout.proofs.bits.clear_between.Goals as goal
use Rattle.fs_layout.proofs.bits.clear_between.Goals.{then-not-is_set, else-not-is_set}

more : (octets : List ℕ) (from n clear next : ℕ) (set : Bool) → set ≡ bit_of octets n
    → (from ≤ n) × (clear ≤ n - from) × (clear ≡ count_by (λ b. not (bit_of octets b)) (range_with_len from (n - from)))
    → next ≡ clear + cond (not set) 1 0
    → (from ≤ n + 1) × (next ≤ n + 1 - from) × (next ≡ count_by (λ b. not (bit_of octets b)) (range_with_len from (n + 1 - from)))
more octets from n clear next set is so_far step =
    let counted = count_next (λ b. not (bit_of octets b)) from (n - from) in
    let here : from + (n - from) ≡ n = omega (arith, so_far.0) in
    let many : n + 1 - from ≡ n - from + 1 = omega (arith, so_far.0) in
    let same = ap (λ (b : Bool). cond (not b) 1 0) is ∙ ap (λ (k : ℕ). cond (not (bit_of octets k)) 1 0) (sym here) in (
      omega (arith, so_far.0),
      small set step,
      step ∙ ap (λ (m : ℕ). m + cond (not set) 1 0) so_far.2
          ∙ ap (λ (m : ℕ). count_by (λ b. not (bit_of octets b)) (range_with_len from (n - from)) + m) same ∙ sym counted
          ∙ ap (λ (m : ℕ). count_by (λ b. not (bit_of octets b)) (range_with_len from m)) (sym many),
    )
  where
    small : (b : Bool) → next ≡ clear + cond (not b) 1 0 → next ≤ n + 1 - from
    small true e = omega (arith, so_far.0, so_far.1)
    small false e = omega (arith, so_far.0, so_far.1)

pub loop-bit-preserved : goal.loop-bit-preserved
loop-bit-preserved c =
    more c.args.octets.now c.args.from c.loop-bit.bit c.loop-bit.clear c.if-not-is_set.clear c.is_set.result c.is_set.ensures
    c.loop-bit.invariant (elim c.if-not-is_set.branch [
      | then-not-is_set w ↦ w.clear-is ∙ sym (ap (λ (b : Bool). c.loop-bit.clear + cond (not b) 1 0) w.if-not-is_set.true)
      | else-not-is_set w ↦ let none : c.loop-bit.clear ≡ c.loop-bit.clear + 0 = omega arith in
          w.clear-is ∙ none ∙ sym (ap (λ (b : Bool). c.loop-bit.clear + cond (not b) 1 0) w.if-not-is_set.false)
    ])
