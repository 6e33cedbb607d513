use Rattle.std.proofs.Common.{◌≡◌, ◌⊎◌, inl, inr, ◌<◌, ℕ, ◌+◌, ◌/◌, length, get_or, refl, ◌∙◌, ap, arith}
use Rattle.std.specs.Option.{unwrap_or}
use Rattle.std.proofs.lemmas.Bool.{cases_eq}
use Rattle.disk_cache.specs.Taken.{taken}
use Rattle.disk_cache.proofs.collected.Collected.show.Goals as goal

pub loop-block-init : goal.loop-block-init
loop-block-init c = record {
  below = λ k within low. absurd (omega (arith, low));
  rest = λ k low. refl;
}

pub loop-block-preserved : goal.loop-block-preserved
loop-block-preserved c = record {
  below = λ k within low. below k within low (cases_eq ((c.args.at + k) / 4096) c.loop-block.block);
  rest = λ k low. c.show_block.ensures.outside k (λ is. omega (arith, is, low)) ∙ c.loop-block.invariant.rest k (omega (arith, low));
}
  where
    below : (k : ℕ) → k < length c.args.into.now → (c.args.at + k) / 4096 < c.loop-block.block + 1
        → ((c.args.at + k) / 4096 ≡ c.loop-block.block) ⊎ ((c.args.at + k) / 4096 ≡ c.loop-block.block → ⊥)
        → get_or c.show_block.new.into k 0 ≡ unwrap_or (taken c.args.self.now (c.args.at + k)) (get_or c.args.into.now k 0)
    below k within low (inl here) =
        c.show_block.ensures.inside k (omega (arith, within, c.loop-block.auto.into)) here
        ∙ ap (λ (o : ℕ). unwrap_or (taken c.args.self.now (c.args.at + k)) o) (c.loop-block.invariant.rest k (omega (arith, here)))
    below k within low (inr other) =
        c.show_block.ensures.outside k other ∙ c.loop-block.invariant.below k within (omega (arith, low, other))

pub returns : goal.returns
returns c k within = c.loop-block.invariant.below k within (omega (arith, within, c.loop-block-test.false))
