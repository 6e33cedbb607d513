use Rattle.std.proofs.Common.{◌≡◌, ◌≤◌, ◌-◌, length, map}
use Rattle.model.specs.Names as model
use Rattle.text_names.proofs.TakesLaws.{tail_takes}
use Rattle.text_names.proofs.patterns.takes.Given as goal

-- what is left decides
abbrev pub invariant-loop-at : goal.invariant-loop-at
invariant-loop-at l = record {
  items : l.at ≤ length l.items;
  name : l.at ≤ length l.name;
  same : model.takes (map model.item_of l.items) l.name ≡ tail_takes l.items l.name l.at l.at;
}

abbrev pub decreases-loop-at : goal.decreases-loop-at
decreases-loop-at l = length l.items - l.at
