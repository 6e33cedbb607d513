use Rattle.std.proofs.Common.{◌≡◌, take}
use Rattle.volume_states.specs.Table.{widths_of}
use Rattle.volume_states.proofs.table.widths_of.Given as goal

abbrev pub invariant-loop-row : goal.invariant-loop-row
invariant-loop-row l = l.widths ≡ widths_of (take l.row-index l.rows)
