use Rattle.std.proofs.Common.{ap, ◌<◌, rules, refl, sym, ◌∙◌, true, false}
use Rattle.model.specs.Calendar.{moment_limit}
use Rattle.model.specs.Names.{is_group_name}
use Rattle.model.specs.Spool.{is_here}
use Rattle.text_names.specs.Descriptions.{is_description}
use Rattle.spool_admission.proofs.Testing.{made_by_test}
use Rattle.spool_admission.proofs.group_admission.may_make.Goals as goal

pub returns-then-not-is_group_name : goal.returns-then-not-is_group_name
returns-then-not-is_group_name c = λ S is.
    let g = c.args.group.now in
    let early : g.moment < moment_limit = search rules in
    let name = c.is_group_name.ensures ∙ ap is_group_name c.as_slice-name.ensures in
    made_by_test S g false (is_description g.description) (is_here S g.name) early (sym c.if-not-is_group_name.true ∙ name) refl refl

pub returns-then-not-is_description : goal.returns-then-not-is_description
returns-then-not-is_description c = λ S is.
    let g = c.args.group.now in
    let early : g.moment < moment_limit = search rules in
    let name = c.is_group_name.ensures ∙ ap is_group_name c.as_slice-name.ensures in
    let description = c.is_description.ensures ∙ ap is_description c.as_slice.ensures in
    made_by_test S g true false (is_here S g.name) early (sym c.if-not-is_group_name.false ∙ name)
    (sym c.if-not-is_description.true ∙ description) refl

pub returns : goal.returns
returns c = λ S is.
    let g = c.args.group.now in
    let early : g.moment < moment_limit = search rules in
    let name = c.is_group_name.ensures ∙ ap is_group_name c.as_slice-name.ensures in
    let description = c.is_description.ensures ∙ ap is_description c.as_slice.ensures in
    made_by_test S g true true c.is_here.result early (sym c.if-not-is_group_name.false ∙ name)
    (sym c.if-not-is_description.false ∙ description) (c.is_here.ensures S is ∙ ap (is_here S) c.as_slice-name.ensures)
