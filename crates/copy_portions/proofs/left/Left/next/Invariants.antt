use Rattle.std.proofs.Common.{◌≡◌, ◌<◌, ◌≤◌, ℕ, get_or, length, true}
use Rattle.copy_portions.specs.Copying.{is_lacked}
use Rattle.copy_portions.proofs.left.Left.next.Given as goal

abbrev pub invariant-loop-place : goal.invariant-loop-place
invariant-loop-place l = record {
  same : l.self-inside.lacked.items ≡ l.initial.self-inside.lacked.items;
  first : l.self-inside.first ≡ l.initial.self-inside.first;
  few : l.found ≤ length l.into;
  room : length l.into ≡ length l.initial.into;
  lacked : (i : ℕ) → i < l.found → is_lacked l.self-inside.lacked.items (get_or l.into i 0) ≡ true;
}
