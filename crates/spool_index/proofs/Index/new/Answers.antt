use Rattle.std.proofs.Common.{map, ap}
use Rattle.spool_groups.specs.Shown.{shown}
use Rattle.spool_index.specs.Ids.{IdsView, serial_with}
use Rattle.spool_index.proofs.Growing.{none_indexed}
use Rattle.spool_index.proofs.Index.new.Goals as goal

pub returns : goal.returns
returns c = none_indexed _ c.new.ensures.items (ap (map shown) c.new-3.ensures.items)
    (λ wanted. ap (λ (x : IdsView). serial_with x c.new.result.items wanted) c.new-5.ensures)
