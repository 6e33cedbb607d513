use Rattle.std.proofs.Common.{refl}
use Rattle.test_model.specs.Formats.{Gates, Rows, Steps, Walks}
use Rattle.model.specs.Volume.{number_at}
use Rattle.test_model.proofs.formats.Goals as goal

gates : Gates
gates = (refl, refl, refl, refl, refl, refl, refl, refl, refl, refl)

rows : Rows
rows = (refl, refl)

steps : Steps
steps = (refl, refl, refl, refl, refl, refl, refl)

walks : Walks
unfolding number_at
walks = (refl, refl, refl, refl, refl)

pub returns : goal.returns
returns c = record { gates = gates; rows = rows; steps = steps; walks = walks }
