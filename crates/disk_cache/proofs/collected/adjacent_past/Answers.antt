use Rattle.std.proofs.Common.{◌≡◌, inl, inr, ◌<◌, ℕ, ◌+◌, ◌-◌, List, get_or, sym, ap, ◌∙◌, arith}
use Rattle.std.proofs.lemmas.Bool.{cases_lt}
use Rattle.disk_cache.proofs.collected.adjacent_past.Goals as goal

-- the block of the last slot before a place
before : (blocks : List ℕ) (slot past : ℕ) → slot < past
    → ((i : ℕ) → slot + i < past → get_or blocks (slot + i) 0 ≡ get_or blocks slot 0 + i)
    → get_or blocks (past - 1) 0 ≡ get_or blocks slot 0 + (past - slot - 1)
before blocks slot past low adjacent =
    let place : slot + (past - slot - 1) ≡ past - 1 = omega (arith, low) in
    ap (λ (s : ℕ). get_or blocks s 0) (sym place) ∙ adjacent (past - slot - 1) (omega (arith, low))

pub overflow_add-blocks : goal.overflow_add-blocks
overflow_add-blocks c =
    let few = c.requires.few (c.loop-past.past - 1) (omega (arith, c.loop-past-test.true, c.loop-past.invariant.low)) in
    omega (arith, few)

pub loop-past-preserved : goal.loop-past-preserved
loop-past-preserved c = record {
  low = omega (arith, c.loop-past.invariant.low);
  high = omega (arith, c.loop-past-test.true);
  adjacent = λ i below. elim (cases_lt (c.args.slot + i) c.loop-past.past) [
    | inl old ↦ c.loop-past.invariant.adjacent i old
    | inr new ↦
        let place : c.args.slot + i ≡ c.loop-past.past = omega (arith, new, below) in
        let last = before c.args.blocks.now c.args.slot c.loop-past.past c.loop-past.invariant.low c.loop-past.invariant.adjacent in
        let here = ap (λ (s : ℕ). get_or c.args.blocks.now s 0) place in
        omega (arith, here, last, c.if-blocks-past.true, place, c.loop-past.invariant.low)
  ];
}

pub returns-else-blocks-past-clause-ends : goal.returns-else-blocks-past-clause-ends
returns-else-blocks-past-clause-ends c =
    let last = before c.args.blocks.now c.args.slot c.loop-past.past c.loop-past.invariant.low c.loop-past.invariant.adjacent in
    inr (λ same. omega (arith, same, last, c.if-blocks-past.false, c.loop-past.invariant.low))
