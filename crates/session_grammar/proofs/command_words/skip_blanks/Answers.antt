use Rattle.std.proofs.Common.{◌∙◌, ap}
use Rattle.std.proofs.lemmas.List.{take_rest}
use Rattle.model.specs.Commands.{words}
use Rattle.model.specs.Names.{begins, is_blank}
use Rattle.session_grammar.proofs.WordLaws.{words-skipped, begins-skipped, words-none}
use Rattle.session_grammar.proofs.command_words.skip_blanks.Goals as goal

pub returns-in-Some-clause-same : goal.returns-in-Some-clause-same
returns-in-Some-clause-same c =
    let found = c.in-Some.ensures in
    ap words (take_rest c.args.line.now c.in-Some.first) ∙ words-skipped c.args.line.now c.in-Some.first found.0.high found.0.before

pub returns-in-Some-clause-begins : goal.returns-in-Some-clause-begins
returns-in-Some-clause-begins c =
    let found = c.in-Some.ensures in
    ap (begins is_blank) (take_rest c.args.line.now c.in-Some.first) ∙ begins-skipped c.args.line.now c.in-Some.first found.0.high found.1

pub returns-in-None-clause-same : goal.returns-in-None-clause-same
returns-in-None-clause-same c = words-none c.args.line.now c.in-None.ensures
