use Rattle.std.proofs.Common.{◌∙◌, ap, sym, ◌+◌, drop}
use Rattle.std.specs.Prelude.{option_map, option_and_then}
use Rattle.std.proofs.lemmas.List.{take_rest}
use Rattle.model.specs.Names.{one_number}
use Rattle.text_names.specs.Ranges.{range_from}
use Rattle.text_names.proofs.RangeLaws.{range-no_dash, range-dash}
use Rattle.text_names.proofs.checks.range_of.Goals as goal

pub returns-in_err-first-in-None : goal.returns-in_err-first-in-None
returns-in_err-first-in-None c =
    c.from_residual.ensures
    ∙ ap (option_map one_number) c.in_err-first-in-None.ensures
    ∙ sym (range-no_dash c.args.text.now c.in-None.ensures)

pub returns-in_ok-first-in-None : goal.returns-in_ok-first-in-None
returns-in_ok-first-in-None c =
    ap (option_map one_number) c.in_ok-first-in-None.ensures
    ∙ sym (range-no_dash c.args.text.now c.in-None.ensures)

pub returns-in_err-number_of-in-Some : goal.returns-in_err-number_of-in-Some
returns-in_err-number_of-in-Some c =
    let text = c.args.text.now in
    let found = c.in-Some.ensures in
    c.from_residual-in_err-number_of-in-Some.ensures
    ∙ ap (option_and_then (λ n. range_from n (drop (c.in-Some.dash + 1) text))) c.in_err-number_of-in-Some.ensures
    ∙ sym (range-dash text c.in-Some.dash found.0.high found.1 found.0.before)

pub returns-in_ok-number_of-in-Some : goal.returns-in_ok-number_of-in-Some
returns-in_ok-number_of-in-Some c =
    let text = c.args.text.now in
    let found = c.in-Some.ensures in
    c.range_from.ensures
    ∙ ap (range_from c.in_ok-number_of-in-Some.field-0) (take_rest text (c.in-Some.dash + 1))
    ∙ ap (option_and_then (λ n. range_from n (drop (c.in-Some.dash + 1) text))) c.in_ok-number_of-in-Some.ensures
    ∙ sym (range-dash text c.in-Some.dash found.0.high found.1 found.0.before)
