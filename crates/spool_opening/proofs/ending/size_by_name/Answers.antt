use Rattle.std.proofs.Common.{rules}
use Rattle.spool_opening.proofs.Whole.{no_kind_named}
use Rattle.spool_opening.proofs.ending.size_by_name.Goals as goal

pub returns-in-None : goal.returns-in-None
returns-in-None c = λ S is n named. no_kind_named S c.args.name.now n c.in-None.ensures named

pub returns-in-Some-Overview-default : goal.returns-in-Some-Overview-default
returns-in-Some-Overview-default c = search rules
