use Rattle.std.proofs.Common.{sym, refl, ◌∙◌, ap, map, ◌++◌, ◌∷◌, [], take, drop, Bor, List, ℕ}
use Rattle.std.proofs.lemmas.List.{map-append}
use Rattle.model.specs.Article.{fields}
use Rattle.text_fields.proofs.FieldLaws.{fields-more, fields-end, fields-empty}
use Rattle.text_fields.proofs.fields.push_fields.Goals as goal

pub returns-then-is_empty_line : goal.returns-then-is_empty_line
returns-then-is_empty_line c =
    let rest = c.loop-rest.rest.now in
    let n = c.line_length-first.result in
    let whole = map (λ (f : Bor (List ℕ)). f.now) c.args.fields.now.items ++ fields c.args.text.now in
    fields-end rest (take n rest) (drop n rest) n c.line_length-first.ensures.first refl refl
    (map (λ (f : Bor (List ℕ)). f.now) c.loop-rest.fields.items) whole (sym c.if-is_empty_line.ensures) c.loop-rest.invariant

pub loop-rest-preserved : goal.loop-rest-preserved
loop-rest-preserved c =
    let rest = c.loop-rest.rest.now in
    let n = c.line_length-first.result in
    let cut = c.split_at.ensures in
    let before = map (λ (f : Bor (List ℕ)). f.now) c.loop-rest.fields.items in
    let whole = map (λ (f : Bor (List ℕ)). f.now) c.args.fields.now.items ++ fields c.args.text.now in
    ap (λ fs. fs ++ fields c.split_at.result.1.now) (ap (map (λ (f : Bor (List ℕ)). f.now)) c.in_ok-push.ensures.items
    ∙ map-append (λ (f : Bor (List ℕ)). f.now) c.loop-rest.fields.items (c.split_at.result.0 ∷ []))
    ∙ fields-more rest (take n rest) (drop n rest) n c.line_length-first.ensures.first refl refl before c.field_end.result
    c.split_at.result.0.now c.split_at.result.1.now whole
    (sym c.if-is_empty_line.ensures) c.field_end.ensures.field cut.front cut.back c.loop-rest.invariant

pub returns : goal.returns
returns c =
    let whole = map (λ (f : Bor (List ℕ)). f.now) c.args.fields.now.items ++ fields c.args.text.now in
    fields-empty (map (λ (f : Bor (List ℕ)). f.now) c.loop-rest.fields.items) whole c.loop-rest.rest.now
    (sym c.loop-rest-test.ensures) c.loop-rest.invariant
