use Rattle.std.proofs.Common.{rules}
use Rattle.session_grammar.proofs.command_words.arguments_of.Goals as goal

pub returns-in-Some-next_word-4 : goal.returns-in-Some-next_word-4
returns-in-Some-next_word-4 c = search rules
