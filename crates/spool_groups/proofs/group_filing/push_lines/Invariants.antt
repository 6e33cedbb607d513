use Rattle.std.proofs.Common.{◌≡◌, ◌+◌, ◌-◌, ◌*◌, ◌^◌, ◌<◌, ℕ, [], length, map}
use Rattle.std.specs.Prelude.{slice_index_or}
use Rattle.spool_groups.specs.Filing.{EndBelow, HasRoomFor, filed_by}
use Rattle.spool_groups.specs.Shown.{shown}
use Rattle.spool_groups.proofs.group_filing.push_lines.Given as goal

abbrev pub invariant-loop-i : goal.invariant-loop-i
invariant-loop-i l = record {
  filed : map shown l.groups ≡ map (filed_by l.serial l.filed l.sizes l.i) (map shown l.initial.groups);
  room : (k : ℕ) → k < length l.filed → HasRoomFor l.places l.groups (slice_index_or l.filed k []) (length l.filed - l.i);
  ends : EndBelow ((l.i + 1) * 2 ^ 32) (map shown l.groups);
}
