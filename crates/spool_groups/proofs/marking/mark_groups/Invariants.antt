use Rattle.std.proofs.Common.{◌≡◌, ◌+◌, ◌<◌, ℕ, false, length, map, take}
use Rattle.std.specs.Prelude.{◌||◌, slice_index_or}
use Rattle.std.specs.List.{list_any}
use Rattle.spool_groups.specs.Finding.{EachRises, is_matching}
use Rattle.spool_groups.specs.Shown.{shown}
use Rattle.spool_groups.proofs.marking.mark_groups.Given as goal

abbrev pub invariant-loop-group : goal.invariant-loop-group
invariant-loop-group l = EachRises (map shown l.groups) → (k : ℕ) → k < length l.marks → slice_index_or l.marks k false
    ≡ (slice_index_or l.initial.marks k false
    || list_any (λ g. is_matching l.wildmat (l.older + 1 + k) (shown g)) (take l.group-index l.groups))
