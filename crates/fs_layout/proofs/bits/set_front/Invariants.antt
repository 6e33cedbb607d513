use Rattle.std.proofs.Common.{◌≡◌, length}
use Rattle.fs_layout.specs.Bits.{IsFront}
use Rattle.fs_layout.proofs.bits.set_front.Given as goal

abbrev pub invariant-loop-bit : goal.invariant-loop-bit
invariant-loop-bit l = (length l.octets ≡ length l.initial.octets) × IsFront l.bit l.octets
