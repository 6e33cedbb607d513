use Rattle.std.proofs.Common.{◌≡◌, map, take}
use Rattle.spool_groups.specs.Shown.{shown}
use Rattle.volume_states.specs.State.{of_index}
use Rattle.volume_states.proofs.contents.statuses.Given as goal

abbrev pub invariant-loop-group : goal.invariant-loop-group
invariant-loop-group l = l.list.items ≡ map of_index (map shown (take l.group-index l.groups))
