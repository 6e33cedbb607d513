use Rattle.model.proofs.Growing.{files_grow}
use Rattle.model.proofs.PackedGrowing.{spools_grow}
use Rattle.model.proofs.filed.spools_grow_by_their_files.Goals as goal

pub returns : goal.returns
returns c = record { files = files_grow; spools = spools_grow }
