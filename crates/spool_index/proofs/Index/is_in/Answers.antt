use Rattle.spool_groups.specs.Shown.{shown}
use Rattle.spool_index.proofs.Serials.{still_found, still_nowhere}
use Rattle.spool_index.proofs.Index.is_in.Goals as goal

pub returns-in-Some : goal.returns-in-Some
returns-in-Some c = λ host S lawful is.
    still_found S c.args.group.now (shown c.in-Some.group.now) c.args.serial c.low.result c.number_of.result
    (c.in-Some.ensures.spool S is) c.low.ensures c.number_of.ensures

pub returns-in-None : goal.returns-in-None
returns-in-None c = λ host S lawful is. still_nowhere host S c.args.group.now c.args.serial lawful (c.in-None.ensures.spool S is)
