use Rattle.std.proofs.Common.{rules}
use Rattle.session_grammar.proofs.commands.command.Goals as goal

pub returns-in-Head : goal.returns-in-Head
returns-in-Head c = search rules
