use Rattle.std.proofs.Common.{◌≡◌, ◌+◌, ◌≤◌, ◌^◌, ◌++◌, length, min, vec_len, vec_capacity}
use Rattle.kernel_outbox.specs.Numbers.{number_lines, last_line}
use Rattle.kernel_outbox.proofs.number_lines.Numbers.stock.Given as goal

-- the octets and the lines that are left are those at first
abbrev pub invariant-loop-octets : goal.invariant-loop-octets
invariant-loop-octets l = record {
  first : 1 ≤ l.numbers.next;
  last : l.numbers.next + l.numbers.left ≤ 2 ^ 64;
  same : l.octets.items ++ (number_lines l.numbers.next l.numbers.left ++ last_line)
      ≡ l.fn.octets.items ++ (number_lines l.fn.self.next l.fn.self.left ++ last_line);
  room : min (vec_len l.octets + length (number_lines l.numbers.next l.numbers.left) + 3) 66_947 ≤ vec_capacity l.octets;
  capacity : vec_capacity l.fn.octets ≤ vec_capacity l.octets;
}

abbrev pub decreases-loop-octets : goal.decreases-loop-octets
decreases-loop-octets l = l.numbers.left
