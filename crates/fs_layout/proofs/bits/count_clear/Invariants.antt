use Rattle.std.proofs.Common.{◌≡◌, ◌*◌, ◌≤◌, not, count_by}
use Rattle.std.specs.List.{range_with_len}
use Rattle.fs_layout.specs.Bits.{bit_of}
use Rattle.fs_layout.proofs.bits.count_clear.Given as goal

abbrev pub invariant-loop-place : goal.invariant-loop-place
invariant-loop-place l = (l.clear ≤ 8 * l.place) × (l.clear ≡ count_by (λ b. not (bit_of l.octets b)) (range_with_len 0 (8 * l.place)))
