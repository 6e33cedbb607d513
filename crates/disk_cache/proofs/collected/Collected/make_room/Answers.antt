use Rattle.std.proofs.Common.{◌≡◌, ◌⊎◌, inl, inr, ◌<◌, ◌≤◌, ℕ, ◌+◌, Option, sym, ◌∙◌, subst, arith}
use Rattle.std.specs.BTreeMap.{get}
use Rattle.std.specs.Option.{IsSome}
use Rattle.std.specs.Ordering.{nat_cmp}
use Rattle.std.proofs.lemmas.Bool.{cases_eq}
use Rattle.disk_cache.proofs.collected.Collected.make_room.Goals as goal

pub loop-block-preserved : goal.loop-block-preserved
loop-block-preserved c = record {
  room = λ b low high. room b low high (cases_eq b c.loop-block.block);
  same = λ k. c.add_slot.ensures.same k ∙ c.loop-block.invariant.same k;
}
  where
    room : (b : ℕ) → c.args.first ≤ b → b < c.loop-block.block + 1 → (b ≡ c.loop-block.block) ⊎ (b ≡ c.loop-block.block → ⊥)
        → IsSome (get nat_cmp c.add_slot.new.self.slots b)
    room b low high (inl here) = subst (λ (d : ℕ). IsSome (get nat_cmp c.add_slot.new.self.slots d)) (sym here)
        c.in_ok-add_slot.ensures.room
    room b low high (inr other) = subst (λ (o : Option ℕ). IsSome o) (sym (c.add_slot.ensures.others b other))
        (c.loop-block.invariant.room b low (omega (arith, high, other)))
