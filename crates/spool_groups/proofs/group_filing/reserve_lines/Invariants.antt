use Rattle.std.proofs.Common.{◌≡◌, ◌<◌, ℕ, [], length, map}
use Rattle.std.specs.Prelude.{slice_index_or}
use Rattle.spool_groups.specs.Filing.{HasRoomFor}
use Rattle.spool_groups.specs.Shown.{shown}
use Rattle.spool_groups.proofs.group_filing.reserve_lines.Given as goal

abbrev pub invariant-loop-name : goal.invariant-loop-name
invariant-loop-name l = record {
  same : map shown l.groups ≡ map shown l.initial.groups;
  room : (k : ℕ) → k < l.name-index → HasRoomFor l.places l.groups (slice_index_or l.filed k []) (length l.filed);
}
