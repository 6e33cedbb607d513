use Rattle.std.proofs.Common.{arith}
use Rattle.std.proofs.lemmas.Grind.{common_steps}
use Rattle.spool_admission.proofs.article_admission.may_file.Goals as goal

pub returns : goal.returns
returns c = grind (arith, common_steps)
