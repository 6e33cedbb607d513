use Rattle.std.proofs.Common.{rules, arith}
use Rattle.std.proofs.lemmas.Grind.{common_steps}
use Rattle.text_framing.proofs.push_unstuffed.Goals as goal

pub returns-in-46 : goal.returns-in-46
returns-in-46 c = grind (arith, common_steps)

pub returns-in_default : goal.returns-in_default
returns-in_default c = search rules
