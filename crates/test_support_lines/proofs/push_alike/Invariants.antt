use Rattle.std.proofs.Common.{◌≡◌, ◌+◌, ◌++◌, replicate, vec_len, vec_capacity}
use Rattle.test_support_lines.proofs.push_alike.Given as goal

abbrev pub invariant-loop : goal.invariant-loop
invariant-loop l = record {
  items : l.octets.items ≡ l.fn.octets.items ++ replicate l.counter 108;
  len : vec_len l.octets ≡ vec_len l.fn.octets + l.counter;
  capacity : vec_capacity l.octets ≡ vec_capacity l.fn.octets;
}
