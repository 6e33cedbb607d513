use Rattle.std.proofs.Common.{rules}
use Rattle.session_grammar.proofs.commands.wanted.Goals as goal

pub returns : goal.returns
returns c = search rules
