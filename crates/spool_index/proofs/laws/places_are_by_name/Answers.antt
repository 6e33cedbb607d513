use Rattle.spool_index.proofs.Named.{are_by_name, have_names}
use Rattle.spool_index.proofs.laws.places_are_by_name.Goals as goal

pub returns : goal.returns
returns c = record { named = have_names; are = are_by_name }
