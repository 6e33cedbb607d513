use Rattle.std.proofs.Common.{◌≡◌, ℕ, ◌<◌, ◌≤◌, get_or}
use Rattle.journal_layout.proofs.superblock.has_zeros.Given as goal

abbrev pub invariant-loop-at : goal.invariant-loop-at
invariant-loop-at l = (k : ℕ) → 151 ≤ k → k < l.at → get_or l.octets k 0 ≡ 0
