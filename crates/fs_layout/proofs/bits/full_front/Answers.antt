use Rattle.std.proofs.Common.{◌≡◌, inl, inr, ◌<◌, ◌≤◌, ℕ, ◌+◌, ◌-◌, ◌*◌, ◌/◌, ◌%◌, ◌^◌, true, eqb, List, get_or, take, drop, replicate}
use Rattle.std.proofs.Common.{refl, sym, ◌∙◌, ap, arith}
use Rattle.std.proofs.lemmas.Bool.{cases_lt}
use Rattle.std.proofs.lemmas.Bool.Decides.{Decides-eqb}
use Rattle.std.proofs.lemmas.List.{get_or-drop, get_or-replicate, get_or-take}
use Rattle.std.proofs.lemmas.Nat.Bits.{bit_at_ones}
use Rattle.std.proofs.lemmas.Slice.Eq.{slice_eq-Decides}
use Rattle.fs_layout.specs.Bits.{bit_of}
use Rattle.fs_layout.proofs.bits.full_front.Goals as goal

-- each bit of full octets is set
in_full : (octets : List ℕ) (from b : ℕ) → take 64 (drop from octets) ≡ replicate 64 255 → 8 * from ≤ b → b < 8 * from + 512
    → bit_of octets b ≡ true
in_full octets from b same low high =
    let i = b / 8 - from in
    let at : from + i ≡ b / 8 = omega arith in
    let is : get_or octets (b / 8) 0 ≡ 255 =
    ap (λ (k : ℕ). get_or octets k 0) (sym at) ∙ sym (get_or-drop from octets i 0)
    ∙ sym (get_or-take 64 (drop from octets) i 0 (omega arith))
    ∙ ap (λ (l : List ℕ). get_or l i 0) same ∙ get_or-replicate 64 i 255 0 (omega arith) in
    ap (λ (n : ℕ). eqb (n / 2 ^ (b % 8) % 2) 1) is ∙ ap (λ (n : ℕ). eqb n 1) (bit_at_ones 8 (b % 8) (omega arith))

pub loop-step-preserved : goal.loop-step-preserved
loop-step-preserved c b low =
    let octets = c.args.octets.now in
    let from : ℕ = c.args.from + c.loop-step.step * 64 in
    let width : from + 64 - from ≡ 64 = omega arith in
    let same : take 64 (drop from octets) ≡ replicate 64 255 =
    ap (λ (m : ℕ). take m (drop from octets)) (sym width)
    ∙ (slice_eq-Decides Decides-eqb _ _ _ (sym c.if-not-is_full.false ∙ c.eq-is_full.ensures)).0 refl in
    elim (cases_lt b (8 * c.args.from + 512 * c.loop-step.step)) [
      | inl earlier ↦ c.loop-step.invariant b earlier
      | inr here ↦ in_full octets from b same (omega (arith, here)) (omega (arith, low))
    ]
