use Rattle.std.proofs.Common.{◌∙◌, ap, map, ◌++◌, ◌∷◌, [], take, drop, length, ◌-◌, List, ℕ}
use Rattle.std.proofs.lemmas.List.{take_rest}
use Rattle.model.specs.Names.{parts}
use Rattle.model.specs.Article.{trimmed}
use Rattle.text_article.proofs.CauseLaws.{groups-more, groups-last}
use Rattle.text_article.proofs.causes.copied_groups.Goals as goal

pub loop-end-preserved : goal.loop-end-preserved
loop-end-preserved c =
    let found = c.in-Some.ensures in
    let before = c.loop-end.groups.items in
    let after = take (length c.split_at.result.1.now - 1) (drop 1 c.split_at.result.1.now) in
    ap (λ (gs : List (List ℕ)). gs ++ map trimmed (parts 44 after)) (c.in_ok-push.ensures.items
    ∙ ap (λ (g : List ℕ). before ++ g ∷ []) c.in_ok-trimmed_copy.ensures)
    ∙ groups-more c.loop-end.rest.now c.split_at.result.0.now c.split_at.result.1.now after c.in-Some.end before
    (map trimmed (parts 44 c.args.content.now)) found.0 found.1
    c.split_at.ensures.front c.split_at.ensures.back (take_rest c.split_at.result.1.now 1) c.loop-end.invariant

pub returns : goal.returns
returns c =
    let before = c.loop-end.groups.items in
    c.in_ok-push-2.ensures.items ∙ ap (λ (g : List ℕ). before ++ g ∷ []) c.in_ok-trimmed_copy-2.ensures
    ∙ groups-last c.loop-end.rest.now before (map trimmed (parts 44 c.args.content.now)) c.in_default.ensures c.loop-end.invariant
