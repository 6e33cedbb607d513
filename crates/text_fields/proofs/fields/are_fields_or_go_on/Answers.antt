use Rattle.std.proofs.Common.{sym, ◌∙◌}
use Rattle.text_fields.proofs.FieldLaws.{all-line, all-bad, all-end, all-empty}
use Rattle.text_fields.proofs.fields.are_fields_or_go_on.Goals as goal

pub returns-then-is_empty_line : goal.returns-then-is_empty_line
returns-then-is_empty_line c =
    let cut = c.split_at.ensures in
    sym (all-end c.loop-rest.rest.now c.split_at.result.0.now c.split_at.result.1.now c.line_length.result c.line_length.ensures.first
    cut.front cut.back (sym c.if-is_empty_line.ensures))
    ∙ c.loop-rest.invariant

pub returns-then-not-is_field_line : goal.returns-then-not-is_field_line
returns-then-not-is_field_line c =
    let cut = c.split_at.ensures in
    sym (all-bad c.loop-rest.rest.now c.split_at.result.0.now c.split_at.result.1.now c.line_length.result c.line_length.ensures.first
    cut.front cut.back (sym c.if-is_empty_line.ensures) (sym c.if-not-is_field_line.ensures))
    ∙ c.loop-rest.invariant

pub loop-rest-preserved : goal.loop-rest-preserved
loop-rest-preserved c =
    let cut = c.split_at.ensures in
    sym (all-line c.loop-rest.rest.now c.split_at.result.0.now c.split_at.result.1.now c.line_length.result c.line_length.ensures.first
    cut.front cut.back (sym c.if-is_empty_line.ensures) (sym c.if-not-is_field_line.ensures))
    ∙ c.loop-rest.invariant

pub returns : goal.returns
returns c = sym (all-empty c.loop-rest.rest.now (sym c.loop-rest-test.ensures)) ∙ c.loop-rest.invariant
