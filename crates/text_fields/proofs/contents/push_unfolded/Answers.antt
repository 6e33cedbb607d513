use Rattle.std.proofs.Common.{sym, ◌∙◌, ap, ◌++◌}
use Rattle.std.proofs.lemmas.List.{append-nil}
use Rattle.model.specs.Article.{unfolded}
use Rattle.text_fields.proofs.ContentLaws.{unfolded-more, unfolded-none}
use Rattle.text_fields.proofs.contents.push_unfolded.Goals as goal

pub loop-rest-preserved : goal.loop-rest-preserved
loop-rest-preserved c =
    let before = c.loop-rest.octets.items in
    let cut = c.split_at.ensures in
    ap (λ l. l ++ unfolded c.split_at.result.1.now) (c.in_ok-extend_from_slice.ensures.items
    ∙ ap (λ l. before ++ l) c.line_text.ensures)
    ∙ unfolded-more c.loop-rest.rest.now c.split_at.result.0.now c.split_at.result.1.now c.line_length.result
    c.line_length.ensures.first cut.front cut.back before
    ∙ c.loop-rest.invariant

pub returns : goal.returns
returns c =
    let before = c.loop-rest.octets.items in
    sym (append-nil before) ∙ ap (λ l. before ++ l) (sym (unfolded-none c.loop-rest.rest.now (sym c.loop-rest-test.ensures)))
    ∙ c.loop-rest.invariant
