use Rattle.std.proofs.Common.{◌≡◌, ◌≤◌, ◌*◌, eqb, count_by}
use Rattle.std.specs.List.{range_with_len}
use Rattle.model.specs.Volume.{number_at}
use Rattle.fs_layout.proofs.inodes.count_free.Given as goal

abbrev pub invariant-loop-place : goal.invariant-loop-place
invariant-loop-place l = (l.free ≤ l.place) × (l.free ≡ count_by (λ k. eqb (number_at (64 * k) 4 l.block) 0) (range_with_len 0 l.place))
