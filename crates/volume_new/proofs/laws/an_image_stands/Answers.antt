use Rattle.volume_new.proofs.AnImage.{image_of_host, one_image}
use Rattle.volume_new.proofs.laws.an_image_stands.Goals as goal

pub returns-clause-each : goal.returns-clause-each
returns-clause-each c = image_of_host

pub returns-clause-one : goal.returns-clause-one
returns-clause-one c = one_image
