use Rattle.model.proofs.Inodes.{creates_one}
use Rattle.model.proofs.filed.creates_add_one_file.Goals as goal

pub returns : goal.returns
returns c = creates_one
