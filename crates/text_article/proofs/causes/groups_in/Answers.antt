use Rattle.std.proofs.Common.{◌∙◌, ap, map, ◌++◌, ◌∷◌, [], take, drop, length, ◌-◌, Bor, List, ℕ}
use Rattle.std.proofs.lemmas.List.{map-append, take_rest}
use Rattle.model.specs.Names.{parts}
use Rattle.model.specs.Article.{trimmed}
use Rattle.text_article.proofs.CauseLaws.{groups-more, groups-last}
use Rattle.text_article.proofs.causes.groups_in.Goals as goal

pub loop-end-preserved : goal.loop-end-preserved
loop-end-preserved c =
    let now = λ (f : Bor (List ℕ)). f.now in
    let found = c.in-Some.ensures in
    let before = map now c.loop-end.groups.items in
    let after = take (length c.split_at.result.1.now - 1) (drop 1 c.split_at.result.1.now) in
    ap (λ gs. gs ++ map trimmed (parts 44 after)) (ap (map now) c.in_ok-push.ensures.items
    ∙ map-append now c.loop-end.groups.items (c.trim.result ∷ []) ∙ ap (λ g. before ++ g ∷ []) c.trim.ensures)
    ∙ groups-more c.loop-end.rest.now c.split_at.result.0.now c.split_at.result.1.now after c.in-Some.end before
    (map trimmed (parts 44 c.args.content.now)) found.0 found.1
    c.split_at.ensures.front c.split_at.ensures.back (take_rest c.split_at.result.1.now 1) c.loop-end.invariant

pub returns : goal.returns
returns c =
    let now = λ (f : Bor (List ℕ)). f.now in
    let before = map now c.loop-end.groups.items in
    ap (map now) c.in_ok-push-2.ensures.items ∙ map-append now c.loop-end.groups.items (c.trim-2.result ∷ [])
    ∙ ap (λ g. before ++ g ∷ []) c.trim-2.ensures
    ∙ groups-last c.loop-end.rest.now before (map trimmed (parts 44 c.args.content.now)) c.in_default.ensures c.loop-end.invariant
