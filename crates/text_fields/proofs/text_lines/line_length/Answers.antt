use Rattle.std.proofs.Common.{arith, ◌+◌, ◌∷◌, [], length, take, sym, ◌∙◌, ap}
use Rattle.std.proofs.lemmas.List.{take_all, drop_all}
use Rattle.model.specs.Stream.{lines}
use Rattle.model.proofs.LineLaws.{lines-line, lines-rest, lines-empty}
use Rattle.text_fields.proofs.LineLaws.{EndsAt-found, NeverEnds-none}
use Rattle.text_fields.proofs.text_lines.line_length.Goals as goal

pub returns-in-Some-clause-first : goal.returns-in-Some-clause-first
returns-in-Some-clause-first c =
    let found = c.in-Some.ensures in
    lines-line c.args.text.now (c.in-Some.at + 2) (EndsAt-found c.args.text.now c.in-Some.at found.0 found.1)

pub returns-in-None-clause-first : goal.returns-in-None-clause-first
returns-in-None-clause-first c =
    let text = c.args.text.now in
    lines-rest text c.requires (NeverEnds-none text c.in-None.ensures)
    ∙ ap (λ l. l ∷ []) (sym (take_all (length text) text (omega arith)))
    ∙ ap (λ l. take (length text) text ∷ l) (sym (ap lines (drop_all (length text) text (omega arith)) ∙ lines-empty))
