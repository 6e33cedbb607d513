use Rattle.std.proofs.Common.{◌≡◌, ℕ, length, get_or}
use Rattle.std.specs.Prelude.{vec_capacity}
use Rattle.journal_volume.proofs.number_set.reach.Given as goal

abbrev pub invariant-loop-place : goal.invariant-loop-place
invariant-loop-place l = record {
  size : length l.places.items ≡ l._place;
  same : (k : ℕ) → get_or l.places.items k 0 ≡ get_or l.initial.places.items k 0;
  room : vec_capacity l.places ≡ vec_capacity l.initial.places;
}
