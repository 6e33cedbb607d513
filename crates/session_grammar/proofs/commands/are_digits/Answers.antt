use Rattle.std.proofs.Common.{rules, tests, length, ◌==◌}
use Rattle.std.specs.List.{list_all}
use Rattle.std.specs.Char.{is_ascii_digit}
use Rattle.std.proofs.lemmas.Bool.{eq-eqb}
use Rattle.std.proofs.lemmas.Iterator.{YieldsList-from_slice}
use Rattle.std.proofs.lemmas.Iterator.Search.{all_from_yields_List}
use Rattle.text_names.proofs.Runs.{and_second}
use Rattle.session_grammar.proofs.commands.are_digits.Goals as goal

pub returns-then-word-count : goal.returns-then-word-count
returns-then-word-count c =
    let word = c.args.word.now in
    and_second (length word == c.args.count) (list_all is_ascii_digit word) c.all.result
    (eq-eqb (length word) c.args.count c.if-word-count.true)
    (all_from_yields_List is_ascii_digit _ _ c.all.result c.all.ensures.ran (YieldsList-from_slice word cc)
    (λ x b q k. search (rules, tests)))
