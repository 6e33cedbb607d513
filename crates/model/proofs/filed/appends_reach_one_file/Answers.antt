use Rattle.model.proofs.Inodes.{appends_to_one}
use Rattle.model.proofs.filed.appends_reach_one_file.Goals as goal

pub returns : goal.returns
returns c = appends_to_one
