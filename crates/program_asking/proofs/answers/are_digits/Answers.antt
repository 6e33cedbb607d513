use Rattle.std.proofs.Common.{rules, tests, sym, ◌∙◌}
use Rattle.std.proofs.lemmas.Iterator.{YieldsList-from_slice}
use Rattle.std.proofs.lemmas.Iterator.Search.{all_from_yields_List}
use Rattle.std.specs.Char.{is_ascii_digit}
use Rattle.text_names.proofs.Runs.{run_of}
use Rattle.program_asking.proofs.answers.are_digits.Goals as goal

pub returns-then-not-is_empty : goal.returns-then-not-is_empty
returns-then-not-is_empty c =
    run_of is_ascii_digit c.args.octets.now c.all.result (sym c.if-not-is_empty.true ∙ c.is_empty.ensures)
    (all_from_yields_List is_ascii_digit _ _ c.all.result c.all.ensures.ran (YieldsList-from_slice c.args.octets.now cc)
    (λ x b q k. search (rules, tests)))
