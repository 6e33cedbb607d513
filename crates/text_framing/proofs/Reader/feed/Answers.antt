use Rattle.std.proofs.Common.{rules, arith}
use Rattle.std.proofs.lemmas.Grind.{common_steps}
use Rattle.text_framing.proofs.Reader.feed.Goals as goal

pub returns-clause-rest : goal.returns-clause-rest
returns-clause-rest c = grind (arith, common_steps)

pub returns-clause-held : goal.returns-clause-held
returns-clause-held c = search rules
