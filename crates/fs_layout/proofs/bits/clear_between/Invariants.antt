use Rattle.std.proofs.Common.{◌≡◌, ◌-◌, ◌≤◌, not, count_by}
use Rattle.std.specs.List.{range_with_len}
use Rattle.fs_layout.specs.Bits.{bit_of}
use Rattle.fs_layout.proofs.bits.clear_between.Given as goal

abbrev pub invariant-loop-bit : goal.invariant-loop-bit
invariant-loop-bit l = (l.from ≤ l.bit) × (l.clear ≤ l.bit - l.from)
    × (l.clear ≡ count_by (λ b. not (bit_of l.octets b)) (range_with_len l.from (l.bit - l.from)))
