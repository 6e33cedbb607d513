use Rattle.std.proofs.Common.{rules}
use Rattle.session_grammar.proofs.keywords.is_word.Goals as goal

pub returns : goal.returns
returns c = search rules
