use Rattle.std.proofs.Common.{rules, ◌≡◌, refl, ℕ, ◌+◌, ◌-◌, get_or, drop, sym, ◌∙◌, ap, arith, length-drop}
use Rattle.std.proofs.lemmas.List.{get_or-drop}
use Rattle.std.proofs.lemmas.List.Elements.{All-from_get_or, All-get_or}
use Rattle.std.proofs.lemmas.Bool.{false≢true}
use Rattle.journal_layout.proofs.superblock.has_zeros.Goals as goal

pub returns : goal.returns
returns c = (
  λ t. All-from_get_or (λ o. o ≡ 0) (drop 151 c.args.octets.now) 0 (λ k within. get_or-drop 151 c.args.octets.now k 0
      ∙ c.loop-at.invariant (151 + k) (omega arith) (omega (arith, length-drop 151 c.args.octets.now, c.loop-at-test.false))),
  λ all. refl,
)

pub returns-then-octets-at-ne0 : goal.returns-then-octets-at-ne0
returns-then-octets-at-ne0 c = (
  λ t. absurd (false≢true t),
  λ all.
      let place : 151 + (c.loop-at.at - 151) ≡ c.loop-at.at = omega arith in
      let zero = All-get_or (λ o. o ≡ 0) (drop 151 c.args.octets.now) (c.loop-at.at - 151) 0
      (omega (arith, length-drop 151 c.args.octets.now)) all in
      let is : get_or c.args.octets.now c.loop-at.at 0 ≡ 0 = ap (λ (n : ℕ). get_or c.args.octets.now n 0) (sym place)
      ∙ sym (get_or-drop 151 c.args.octets.now (c.loop-at.at - 151) 0) ∙ zero in
      absurd (c.if-octets-at-ne0.true is),
)

pub loop-at-init : goal.loop-at-init
loop-at-init c = search rules
