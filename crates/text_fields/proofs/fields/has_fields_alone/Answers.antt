use Rattle.std.proofs.Common.{sym, ◌∙◌}
use Rattle.std.specs.Prelude.{true, false}
use Rattle.text_fields.proofs.FieldLaws.{alone-line, alone-end, alone-empty}
use Rattle.text_fields.proofs.fields.has_fields_alone.Goals as goal

pub returns-then-is_empty : goal.returns-then-is_empty
returns-then-is_empty c = sym (alone-empty c.args.text.now (sym c.if-is_empty.ensures))

pub returns-then-is_empty_line : goal.returns-then-is_empty_line
returns-then-is_empty_line c =
    let cut = c.split_at.ensures in
    sym (alone-end c.args.text.now c.split_at.result.0.now c.split_at.result.1.now c.line_length.result c.line_length.ensures.first
    cut.front cut.back (sym c.if-is_empty_line.ensures))

pub returns-then-begins_field : goal.returns-then-begins_field
returns-then-begins_field c =
    let cut = c.split_at.ensures in
    c.are_fields_or_go_on.ensures
    ∙ alone-line c.args.text.now c.split_at.result.0.now c.split_at.result.1.now c.line_length.result c.line_length.ensures.first cut.front
    cut.back true (sym c.if-is_empty_line.ensures) c.if-begins_field.ensures

pub returns-else-begins_field : goal.returns-else-begins_field
returns-else-begins_field c =
    let cut = c.split_at.ensures in
    c.if-begins_field.false
    ∙ alone-line c.args.text.now c.split_at.result.0.now c.split_at.result.1.now c.line_length.result c.line_length.ensures.first cut.front
    cut.back false (sym c.if-is_empty_line.ensures) c.if-begins_field.ensures
