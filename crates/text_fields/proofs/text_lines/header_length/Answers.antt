use Rattle.std.proofs.Common.{sym, subst, ◌+◌}
use Rattle.std.proofs.lemmas.Bool.{eqb-true}
use Rattle.text_fields.proofs.HeaderLaws.{IsAt, IsAt-line, IsHeader-end, IsHeader-rest}
use Rattle.text_fields.proofs.text_lines.header_length.Goals as goal

pub returns-then-is_empty_line : goal.returns-then-is_empty_line
returns-then-is_empty_line c =
    let cut = c.split_at.ensures in
    IsHeader-end c.args.text.now c.loop-rest.rest.now c.split_at.result.0.now c.split_at.result.1.now c.loop-rest.at c.line_length.result
    c.loop-rest.invariant
    c.line_length.ensures.within cut.front cut.back cut.front_len c.line_length.ensures.first (sym c.if-is_empty_line.ensures)

pub loop-rest-preserved : goal.loop-rest-preserved
loop-rest-preserved c =
    let cut = c.split_at.ensures in
    subst (λ n. IsAt c.args.text.now c.split_at.result.1.now (c.loop-rest.at + n)) (sym cut.front_len)
    (IsAt-line c.args.text.now c.loop-rest.rest.now c.split_at.result.0.now c.split_at.result.1.now c.loop-rest.at c.line_length.result
    c.loop-rest.invariant
    c.line_length.ensures.within cut.front cut.back c.line_length.ensures.first (sym c.if-is_empty_line.ensures))

pub returns : goal.returns
returns c = IsHeader-rest c.args.text.now c.loop-rest.rest.now c.loop-rest.at c.loop-rest.invariant
    (eqb-true _ _ (sym c.loop-rest-test.ensures))
