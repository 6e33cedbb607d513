use Rattle.spool_groups.specs.Shown.{shown}
use Rattle.spool_index.proofs.Serials.{number_upto_found, number_upto_none}
use Rattle.spool_index.proofs.Index.number_in.Goals as goal

pub returns-in-Some : goal.returns-in-Some
returns-in-Some c = λ host S lawful is. number_upto_found S c.args.group.now (shown c.in-Some.group.now) c.args.serial c.number_of.result
    (c.in-Some.ensures.spool S is) c.number_of.ensures

pub returns-in-None : goal.returns-in-None
returns-in-None c = λ host S lawful is. number_upto_none host S c.args.group.now c.args.serial lawful (c.in-None.ensures.spool S is)
