use Rattle.std.proofs.Common.{◌≡◌, ℕ, ◌≤◌, ◌<◌, ◌+◌, ◌-◌, ◌*◌, true, length, map, ◌∷◌}
use Rattle.std.specs.Prelude.{◌||◌}
use Rattle.model.specs.Names as model
use Rattle.text_names.proofs.TakesLaws.{tail_takes, run_takes}
use Rattle.text_names.proofs.patterns.takes_behind_run.Given as goal

-- The items take the name from here on, or those after the last * take it from a later place on; and where they do,
-- they take as many octets up to here as those that were tried.
abbrev pub invariant-loop-from : goal.invariant-loop-from
invariant-loop-from l = record {
  items : l.at ≤ length l.items;
  name : l.from ≤ length l.name;
  behind : l.behind ≤ l.at;
  tried : l.tried + (l.at - l.behind) ≡ l.from;
  same : model.takes (model.AnyRun ∷ map model.item_of l.items) l.name
      ≡ (tail_takes l.items l.name l.at l.from || run_takes l.items l.name l.behind (l.tried + 1));
  later : (k : ℕ) → l.tried < k → tail_takes l.items l.name l.behind k ≡ true
      → tail_takes l.items l.name l.at (k + (l.at - l.behind)) ≡ true;
}

abbrev pub decreases-loop-from : goal.decreases-loop-from
decreases-loop-from l = (length l.name - l.tried) * (length l.items + 1) + (length l.items - l.at)
