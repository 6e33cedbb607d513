use Rattle.std.proofs.Common.{◌≡◌, ◌∷◌, map, take}
use Rattle.volume_states.specs.Table.{heading, row_of}
use Rattle.volume_states.proofs.table.rows_of.Given as goal

abbrev pub invariant-loop-group : goal.invariant-loop-group
invariant-loop-group l = l.rows.items ≡ heading ∷ map row_of (take l.group-index l.groups)
