use Rattle.spool_groups.specs.Shown.{shown}
use Rattle.spool_index.proofs.LookUps.{expiry_found, expiry_not_found}
use Rattle.spool_index.proofs.Index.expired_at.Goals as goal

pub returns-in-Some : goal.returns-in-Some
returns-in-Some c = λ host S lawful is. expiry_found host S c.args.group.now (shown c.in-Some.group.now) c.args.number c.expired_at.result
    lawful (c.in-Some.ensures.spool S is) c.expired_at.ensures

pub returns-in-None : goal.returns-in-None
returns-in-None c = λ host S lawful is. expiry_not_found host S c.args.group.now c.args.number lawful (c.in-None.ensures.spool S is)
