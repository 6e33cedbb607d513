use Rattle.std.proofs.Common.{◌≡◌, ◌+◌, ◌-◌, ◌≤◌, ◌*◌, drop}
use Rattle.kernel_outbox.specs.Numbers.{number_lines}
use Rattle.kernel_outbox.proofs.number_lines.write_lines.Given as goal

-- the lines of the last numbers are at the end
abbrev pub invariant-loop-left : goal.invariant-loop-left
invariant-loop-left l = record {
  some : l.left ≤ l.count;
  room : 22 * l.left ≤ l.start;
  within : l.start ≤ 1408;
  lines : drop l.start l.octets ≡ number_lines (l.first + l.left) (l.count - l.left);
}

abbrev pub decreases-loop-left : goal.decreases-loop-left
decreases-loop-left l = l.left
