use Rattle.std.proofs.Common.{ap}
use Rattle.std.specs.Prelude.{option_and_then}
use Rattle.model.specs.Spool.{here_by_id, unless_gone}
use Rattle.session_lookups.proofs.Standing.{gone_located, here_located}
use Rattle.session_lookups.proofs.command_look_ups.locate_id.Goals as goal

pub returns-in_default-clause-is : goal.returns-in_default-clause-is
unfolding here_by_id
returns-in_default-clause-is g c = ap (option_and_then (unless_gone (g.L.LookUps.changes c.args.spool.now))) c.in_default.ensures.is

pub returns-in-Some-gone_at-clause-is : goal.returns-in-Some-gone_at-clause-is
unfolding here_by_id
returns-in-Some-gone_at-clause-is g c =
    (gone_located _ _ c.in-Some.serial c.in-Some-gone_at.removed c.in-Some.ensures.is c.in-Some.ensures.there c.in-Some-gone_at.ensures).0

pub returns-in-Some-gone_at-clause-reads : goal.returns-in-Some-gone_at-clause-reads
returns-in-Some-gone_at-clause-reads g c =
    (gone_located _ _ c.in-Some.serial c.in-Some-gone_at.removed c.in-Some.ensures.is c.in-Some.ensures.there c.in-Some-gone_at.ensures).1

pub returns-in-None-clause-is : goal.returns-in-None-clause-is
unfolding here_by_id
returns-in-None-clause-is g c = (here_located _ _ c.in-Some.serial c.in-Some.ensures.is c.in-Some.ensures.there c.in-None.ensures).0

pub returns-in-None-clause-reads : goal.returns-in-None-clause-reads
returns-in-None-clause-reads g c = (here_located _ _ c.in-Some.serial c.in-Some.ensures.is c.in-Some.ensures.there c.in-None.ensures).1
