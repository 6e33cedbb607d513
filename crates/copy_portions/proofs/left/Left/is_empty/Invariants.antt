use Rattle.std.proofs.Common.{◌≡◌, ◌<◌, ◌≤◌, ℕ, false, length}
use Rattle.copy_portions.specs.Copying.{is_lacked}
use Rattle.copy_portions.proofs.left.Left.is_empty.Given as goal

abbrev pub invariant-loop-place : goal.invariant-loop-place
invariant-loop-place l = record {
  same : l.self-inside.lacked.items ≡ l.initial.self-inside.lacked.items;
  at : l.self-inside.at ≡ l.initial.self-inside.at;
  first : l.self-inside.first ≤ length l.self-inside.lacked.items;
  none : (k : ℕ) → k < l.place → is_lacked l.self-inside.lacked.items k ≡ false;
}
