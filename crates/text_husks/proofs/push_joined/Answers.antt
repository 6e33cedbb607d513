use Rattle.std.proofs.Common.{arith}
use Rattle.std.proofs.lemmas.Grind.{common_steps}
use Rattle.text_husks.proofs.Joined.{joined_cons}
use Rattle.text_husks.proofs.push_joined.Goals as goal

pub returns : goal.returns
returns c = grind (arith, common_steps, joined_cons)
