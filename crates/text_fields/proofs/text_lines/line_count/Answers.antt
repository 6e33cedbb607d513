use Rattle.std.proofs.Common.{rules, ◌≡◌, ◌∙◌, sym, ap, arith, length}
use Rattle.std.proofs.lemmas.Bool.{eqb-true}
use Rattle.std.proofs.lemmas.List.{nil_from_length}
use Rattle.model.specs.Stream.{lines}
use Rattle.model.proofs.LineLaws.{lines-empty}
use Rattle.text_fields.proofs.text_lines.line_count.Goals as goal

pub returns : goal.returns
returns c =
    let rest = c.loop-rest.rest.now in
    let none : length (lines rest) ≡ 0 =
    ap (λ octets. length (lines octets)) (nil_from_length rest (eqb-true _ _ (sym c.loop-rest-test.ensures))) ∙ ap length lines-empty in
    omega (arith, none, c.loop-rest.invariant.0)

pub loop-rest-init : goal.loop-rest-init
loop-rest-init c = search rules
