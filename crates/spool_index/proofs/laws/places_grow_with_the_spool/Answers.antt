use Rattle.spool_index.proofs.Named.{grow_by_change, grow_by_group}
use Rattle.spool_index.proofs.laws.places_grow_with_the_spool.Goals as goal

pub returns : goal.returns
returns c = record { change = grow_by_change; group = grow_by_group }
