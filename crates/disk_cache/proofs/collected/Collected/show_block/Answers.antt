use Rattle.std.proofs.Common.{◌≡◌, ◌⊎◌, inl, inr, ◌<◌, ◌≤◌, ℕ, ◌+◌, ◌-◌, ◌*◌, ◌/◌, Option, get_or, sym, ◌∙◌, ap, refl, arith}
use Rattle.std.specs.Option.{unwrap_or}
use Rattle.std.proofs.lemmas.Bool.{cases_lt}
use Rattle.disk_cache.specs.Taken.{taken}
use Rattle.disk_cache.proofs.collected.Collected.show_block.Goals as goal

outside : (block own place : ℕ) → own ≡ block → (place / 4096 ≡ block → ⊥) → (place < 4096 * own) ⊎ (4096 * own + 4096 ≤ place)
outside block own place same other = elim (cases_lt place (4096 * own)) [
  | inl below ↦ inl below
  | inr above ↦ inr (omega (arith, above, other, same))
]

pub returns-in-Some-clause-inside : goal.returns-in-Some-clause-inside
returns-in-Some-clause-inside c k within here =
    let own = c.in-Some.ensures.block in
    let place : 4096 * c.args.block + (c.args.at + k - 4096 * c.in-Some.slot.block) ≡ c.args.at + k = omega (arith, here, own) in
    c.show_slot.ensures.inside k within (omega (arith, here, own)) (omega (arith, here, own))
    ∙ ap (λ (o : Option ℕ). unwrap_or o (get_or c.args.into.now k 0))
    (sym (c.in-Some.ensures.some.cells (c.args.at + k - 4096 * c.in-Some.slot.block) (omega (arith, here, own)))
    ∙ ap (λ (j : ℕ). taken c.args.self.now j) place)

pub returns-in-Some-clause-outside : goal.returns-in-Some-clause-outside
returns-in-Some-clause-outside c k other =
    c.show_slot.ensures.outside k (outside c.args.block c.in-Some.slot.block (c.args.at + k) c.in-Some.ensures.block other)

pub returns-in-None-clause-inside : goal.returns-in-None-clause-inside
returns-in-None-clause-inside c k within here =
    let place : c.args.at + k ≡ 4096 * c.args.block + (c.args.at + k - 4096 * c.args.block) = omega (arith, here) in
    sym (ap (λ (o : Option ℕ). unwrap_or o (get_or c.args.into.now k 0))
    (ap (λ (j : ℕ). taken c.args.self.now j) place
    ∙ c.in-None.ensures.none refl (c.args.at + k - 4096 * c.args.block) (omega (arith, here))))
