use Rattle.std.proofs.Common.{◌≡◌, ℕ, ◌+◌, ◌*◌, ◌<◌, length, get_or}
use Rattle.model.specs.Volume.{number_at}
use Rattle.journal_layout.proofs.descriptor.read_numbers.Given as goal

abbrev pub invariant-loop-i : goal.invariant-loop-i
invariant-loop-i l = record {
  size : length l.numbers.items ≡ 512;
  each : (k : ℕ) → k < l.i → get_or l.numbers.items k 0 ≡ number_at (24 + 4 * k) 4 l.descriptor;
}
