use Rattle.std.proofs.Common.{rules}
use Rattle.fs_layout.proofs.records.find_from.Goals as goal

pub loop-table-init : goal.loop-table-init
loop-table-init c = search rules
