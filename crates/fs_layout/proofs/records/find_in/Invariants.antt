use Rattle.std.proofs.Common.{◌≢◌, ℕ, ◌<◌, ◌*◌}
use Rattle.disk.specs.Image.{part}
use Rattle.fs_layout.proofs.records.find_in.Given as goal

abbrev pub invariant-loop-place : goal.invariant-loop-place
invariant-loop-place l = (j : ℕ) → j < l.place → part (j * 64) 64 l.block ≢ l.octets
