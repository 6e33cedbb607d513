use Rattle.std.proofs.Common.{◌≡◌, ℕ, ◌<◌, ◌*◌, true}
use Rattle.fs_layout.specs.Bits.{bit_of}
use Rattle.fs_layout.proofs.bits.lowest_clear.Given as goal

abbrev pub invariant-loop-place : goal.invariant-loop-place
invariant-loop-place l = (b : ℕ) → b < 8 * l.place → bit_of l.octets b ≡ true
