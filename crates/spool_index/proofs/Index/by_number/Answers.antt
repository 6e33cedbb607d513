use Rattle.std.proofs.Common.{◌∙◌}
use Rattle.spool_groups.specs.Shown.{shown}
use Rattle.spool_index.proofs.LookUps.{number_found, number_not_found}
use Rattle.spool_index.proofs.Index.by_number.Goals as goal

pub returns-in-Some : goal.returns-in-Some
returns-in-Some c = λ host S lawful is. c.by_number.ensures
    ∙ number_found S c.args.group.now (shown c.in-Some.group.now) c.args.number (c.in-Some.ensures.spool S is)

pub returns-in-None : goal.returns-in-None
returns-in-None c = λ host S lawful is. number_not_found host S c.args.group.now c.args.number lawful (c.in-None.ensures.spool S is)
