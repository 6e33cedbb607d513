use Rattle.session_grammar.proofs.ArgumentLaws.{lines_are_in_grammar}
use Rattle.session_grammar.proofs.arguments_are_in_grammar.Goals as goal

pub returns : goal.returns
returns c = lines_are_in_grammar
