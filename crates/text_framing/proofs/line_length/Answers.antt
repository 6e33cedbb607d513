use Rattle.std.proofs.Common.{arith, ◌∷◌, [], length, take, sym, ◌∙◌, ap}
use Rattle.std.proofs.lemmas.List.{take_all, drop_all}
use Rattle.model.specs.Stream.{lines}
use Rattle.model.specs.declared.message.Mode.TheVariants as mode
use Rattle.model.proofs.LineLaws.{lines-line, lines-rest, lines-empty}
use Rattle.text_framing.proofs.ReaderLaws.{EndsAt-first, NeverEnds-none}
use Rattle.text_framing.proofs.line_length.Goals as goal

pub returns-in-Some-clause-first : goal.returns-in-Some-clause-first
returns-in-Some-clause-first c =
    lines-line c.args.text.now c.in-Some.length (EndsAt-first mode.Line c.args.text.now c.in-Some.length c.in-Some.ensures)

pub returns-in-None-clause-first : goal.returns-in-None-clause-first
returns-in-None-clause-first c =
    let text = c.args.text.now in
    lines-rest text c.requires (NeverEnds-none mode.Line text c.in-None.ensures)
    ∙ ap (λ l. l ∷ []) (sym (take_all (length text) text (omega arith)))
    ∙ ap (λ l. take (length text) text ∷ l) (sym (ap lines (drop_all (length text) text (omega arith)) ∙ lines-empty))
