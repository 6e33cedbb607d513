use Rattle.std.proofs.Common.{sym, ◌∙◌}
use Rattle.session_lookups.proofs.Standing.{found, number_stands}
use Rattle.session_lookups.proofs.command_look_ups.find_number.Goals as goal

pub returns-in-Some-clause-is : goal.returns-in-Some-clause-is
returns-in-Some-clause-is g c = (found _ _ _ (number_stands _ c.args.group.now c.args.number) (sym c.in-Some.is ∙ c.by_number.ensures)).is

pub returns-in-Some-clause-there : goal.returns-in-Some-clause-there
returns-in-Some-clause-there g c =
    (found _ _ _ (number_stands _ c.args.group.now c.args.number) (sym c.in-Some.is ∙ c.by_number.ensures)).there
