use Rattle.std.proofs.Common.{◌∙◌, ap, map, ◌++◌, Bor, List, ℕ}
use Rattle.std.proofs.lemmas.List.{map-append}
use Rattle.model.specs.Article.{fields}
use Rattle.text_article.proofs.injected.both.Goals as goal

pub returns : goal.returns
returns c =
    let all = λ (fs : List (Bor (List ℕ))). map (λ (f : Bor (List ℕ)). f.now) fs in
    ap all c.in_ok-extend_from_slice.ensures.items ∙ map-append (λ (f : Bor (List ℕ)). f.now) _ c.args.fields.now
    ∙ ap (λ (fs : List (List ℕ)). fs ++ all c.args.fields.now) (c.in_ok-push_fields.ensures
    ∙ ap (λ (fs : List (Bor (List ℕ))). all fs ++ fields c.args.added.now) c.in_ok-all.ensures.items)
