use Rattle.std.proofs.Common.{sym, ◌∙◌}
use Rattle.session_lookups.proofs.Standing.{found, id_stands}
use Rattle.session_lookups.proofs.command_look_ups.find_id.Goals as goal

pub returns-in-Some-clause-is : goal.returns-in-Some-clause-is
returns-in-Some-clause-is g c = (found _ _ _ (id_stands _ c.args.wanted.now) (sym c.in-Some.is ∙ c.by_id.ensures)).is

pub returns-in-Some-clause-there : goal.returns-in-Some-clause-there
returns-in-Some-clause-there g c = (found _ _ _ (id_stands _ c.args.wanted.now) (sym c.in-Some.is ∙ c.by_id.ensures)).there
