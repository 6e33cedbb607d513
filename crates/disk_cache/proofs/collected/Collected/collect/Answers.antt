use Rattle.std.proofs.Common.{◌≡◌, ◌⊎◌, inl, inr, ◌<◌, ◌≤◌, ℕ, ◌+◌, ◌-◌, ◌/◌, Some, length, get_or, ◌∙◌, sym, subst, arith}
use Rattle.std.specs.BTreeMap.{BTreeMap, get}
use Rattle.std.specs.Option.{IsSome}
use Rattle.std.specs.Ordering.{nat_cmp}
use Rattle.std.proofs.lemmas.Bool.{cases_eq}
use Rattle.disk_cache.specs.Taken.{taken}
use Rattle.disk_cache.proofs.collected.Collected.collect.Goals as goal

pub loop-block-init : goal.loop-block-init
loop-block-init c = record {
  room = c.in_ok-make_room.ensures.room;
  inside = λ k low high below. absurd (omega (arith, low, below));
  outside = λ k out. c.make_room.ensures.same k;
}

pub loop-block-preserved : goal.loop-block-preserved
loop-block-preserved c = record {
  room = λ b low high. subst (λ (slots : BTreeMap ℕ ℕ). IsSome (get nat_cmp slots b)) (sym c.put.ensures.slots)
      (c.loop-block.invariant.room b low high);
  inside = λ k low high below. inside k low high below (cases_eq (k / 4096) c.loop-block.block);
  outside = λ k out. c.put.ensures.outside k (apart k out) ∙ c.loop-block.invariant.outside k (weaker k out);
}
  where
    inside : (k : ℕ) → c.args.at ≤ k → k < c.args.at + length c.args.from.now → k / 4096 < c.loop-block.block + 1
        → (k / 4096 ≡ c.loop-block.block) ⊎ (k / 4096 ≡ c.loop-block.block → ⊥)
        → taken c.put.new.self k ≡ Some (get_or c.args.from.now (k - c.args.at) 0)
    inside k low high below (inl here) = c.put.ensures.inside k low high here
    inside k low high below (inr other) = c.put.ensures.outside k (inr (inr other))
        ∙ c.loop-block.invariant.inside k low high (omega (arith, below, other))

    apart : (k : ℕ) → (k < c.args.at) ⊎ ((c.args.at + length c.args.from.now ≤ k) ⊎ (c.loop-block.block + 1 ≤ k / 4096))
        → (k < c.args.at) ⊎ ((c.args.at + length c.args.from.now ≤ k) ⊎ (k / 4096 ≡ c.loop-block.block → ⊥))
    apart k (inl below) = inl below
    apart k (inr (inl above)) = inr (inl above)
    apart k (inr (inr behind)) = inr (inr (λ is. omega (arith, is, behind)))

    weaker : (k : ℕ) → (k < c.args.at) ⊎ ((c.args.at + length c.args.from.now ≤ k) ⊎ (c.loop-block.block + 1 ≤ k / 4096))
        → (k < c.args.at) ⊎ ((c.args.at + length c.args.from.now ≤ k) ⊎ (c.loop-block.block ≤ k / 4096))
    weaker k (inl below) = inl below
    weaker k (inr (inl above)) = inr (inl above)
    weaker k (inr (inr behind)) = inr (inr (omega (arith, behind)))

pub returns-clause-inside : goal.returns-clause-inside
returns-clause-inside c k low high = c.loop-block.invariant.inside k low high (omega (arith, low, high, c.loop-block-test.false))

pub returns-clause-outside : goal.returns-clause-outside
returns-clause-outside c k (inl below) = c.loop-block.invariant.outside k (inl below)
returns-clause-outside c k (inr above) = c.loop-block.invariant.outside k (inr (inl above))
