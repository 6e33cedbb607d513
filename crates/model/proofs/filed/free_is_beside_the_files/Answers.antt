use Rattle.model.proofs.Counting.{free_is_beside}
use Rattle.model.proofs.filed.free_is_beside_the_files.Goals as goal

pub returns : goal.returns
returns c = free_is_beside
