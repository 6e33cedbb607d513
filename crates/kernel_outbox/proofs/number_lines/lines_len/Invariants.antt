use Rattle.std.proofs.Common.{◌-◌}
use Rattle.kernel_outbox.proofs.Numbered.{Counted}
use Rattle.kernel_outbox.proofs.number_lines.lines_len.Given as goal

-- the numbers with fewer digits are counted
abbrev pub invariant-loop-digits : goal.invariant-loop-digits
invariant-loop-digits l = Counted l.first l.count l.counted l.lower l.octets (l.digits - 1)
