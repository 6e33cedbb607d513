use Rattle.std.proofs.Common.{◌≡◌, ◌+◌, ◌<◌, ℕ, false, length, take}
use Rattle.std.specs.Prelude.{◌||◌, ◌==◌, slice_index_or}
use Rattle.std.specs.List.{list_any}
use Rattle.spool_groups.specs.declared.group.Line.{Line}
use Rattle.spool_groups.proofs.marking.mark_lines.Given as goal

abbrev pub invariant-loop-line : goal.invariant-loop-line
invariant-loop-line l = (k : ℕ) → k < length l.marks → slice_index_or l.marks k false
    ≡ (slice_index_or l.initial.marks k false || list_any (λ (n : Line). n.serial == l.older + 1 + k) (take l.line-index l.lines))
