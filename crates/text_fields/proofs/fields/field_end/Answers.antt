use Rattle.std.proofs.Common.{sym, subst, ◌+◌}
use Rattle.text_fields.proofs.FieldLaws.{GoesOn, GoesOn-line, EndsField-found}
use Rattle.text_fields.proofs.fields.field_end.Goals as goal

pub loop-rest-preserved : goal.loop-rest-preserved
loop-rest-preserved c =
    let cut = c.split_at.ensures in
    let size = c.line_length.ensures in
    subst (λ n. GoesOn c.args.text.now c.args.first c.split_at.result.1.now (c.loop-rest.end + n)) (sym cut.front_len)
    (GoesOn-line c.args.text.now c.args.first c.loop-rest.rest.now c.split_at.result.0.now c.split_at.result.1.now c.loop-rest.end
    c.line_length.result c.loop-rest.invariant
    (sym c.loop-rest-test.ensures) size.some size.within cut.front cut.back size.first)

pub returns-clause-field : goal.returns-clause-field
returns-clause-field c = EndsField-found c.args.text.now c.args.first c.loop-rest.rest.now c.loop-rest.end c.loop-rest.invariant
    (sym c.loop-rest-test.ensures)
