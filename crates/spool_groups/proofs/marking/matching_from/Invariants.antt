use Rattle.std.proofs.Common.{◌≡◌, ◌<◌, ℕ, false, map, take}
use Rattle.std.specs.List.{list_any}
use Rattle.spool_groups.specs.Finding.{EachRises, is_matching}
use Rattle.spool_groups.specs.Shown.{shown}
use Rattle.spool_groups.proofs.marking.matching_from.Given as goal

-- no group so far matches
abbrev pub invariant-loop-place : goal.invariant-loop-place
invariant-loop-place l = EachRises (map shown l.groups) → (serial : ℕ) → l.older < serial
    → list_any (λ g. is_matching l.wildmat serial (shown g)) (take l.place l.groups) ≡ false
