use Rattle.copy_portions.proofs.Copies.{ends_alike}
use Rattle.copy_portions.proofs.laws.each_copy_ends_alike.Goals as goal

pub returns : goal.returns
returns c = ends_alike
