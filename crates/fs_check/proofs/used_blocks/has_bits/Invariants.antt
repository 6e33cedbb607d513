use Rattle.std.proofs.Common.{◌≡◌, ℕ, ◌<◌}
use Rattle.fs_layout.specs.Bits.{bit_of}
use Rattle.fs_check.proofs.used_blocks.has_bits.Given as goal

abbrev pub invariant-loop-bit : goal.invariant-loop-bit
invariant-loop-bit l = (b : ℕ) → b < l.bit → bit_of l.block b ≡ bit_of l.marks b
