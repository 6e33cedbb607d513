use Rattle.std.proofs.Common.{rules}
use Rattle.session_grammar.proofs.commands.new_groups.Goals as goal

pub returns-in-Three : goal.returns-in-Three
returns-in-Three c = search rules

pub returns-in_default : goal.returns-in_default
returns-in_default c = search rules
