use Rattle.std.proofs.Common.{◌≡◌, ◌⊎◌, ◌<◌, ℕ, length, get_or}
use Rattle.journal_volume.proofs.number_set.forget.Given as goal

abbrev pub invariant-loop-number : goal.invariant-loop-number
invariant-loop-number l =
    (length l.places ≡ length l.initial.places)
    × ((k : ℕ) → (get_or l.places k 0 ≡ 0) ⊎ ((l.number-index < get_or l.places k 0) × (get_or l.places k 0 ≡ get_or l.initial.places k 0)))
